-- Two pieces of one spelling.
use Rattle.std.proofs.Common.{◌≡◌, ◌∙◌, sym, ap, subst, ◌++◌}
use Rattle.std.specs.Prelude.{List, Bool}
use Rattle.std.proofs.lemmas.List.{append_cancel_right}
use Rattle.css_model.specs.declared.place.Place.{Place}
use Rattle.css_model.specs.Classes.{Text}
use Rattle.css_model.specs.declared.token.TokenType.{TokenType}
use Rattle.css_model.specs.declared.place.Place.TheVariants.{InName}
use Rattle.css_model.specs.Parts.{Part, parts_text, AreParts, meanings, would_start_ident}
use Rattle.css_model.specs.Spellings.{IsName, Spells}
use Rattle.css_model.specs.TokenList.{Piece, token, piece_text, IsPiece}
use Rattle.css_model.specs.inner.Fronts.{parts_in}
use Rattle.css_model.proofs.PartLemmas.{parts_in-are}

-- a piece where `s` is is the token of this type
abbrev pub Meets : TokenType → Text → Text → Piece → Type 0
Meets token_type s rest q = piece_text q ≡ s → IsPiece q rest → token token_type s ≡ q

-- a token there is this one, where its type is
pub meet : (token_type other : TokenType) (s t rest : Text) → (Spells other s rest → token_type ≡ other)
    → Meets token_type s rest (token other t)
meet token_type other s t rest same e h = ap (λ k. token k s) (same (subst (λ x. Spells other x rest) e h))
    ∙ ap (token other) (sym e)

-- ---- parts and names

-- a text is one list of parts
pub parts-same : (place : Place) (xs ys : List Part) (rest : Text) → AreParts place xs rest
    → AreParts place ys rest → parts_text xs ≡ parts_text ys → xs ≡ ys
parts-same place xs ys rest h k e =
    append_cancel_right xs ys (parts_in place rest)
    (sym (parts_in-are place xs rest h)
    ∙ (ap (λ cs. parts_in place (cs ++ rest)) e ∙ parts_in-are place ys rest k))

-- a text spells one name
pub name-same : (a b : Text) (i j : Bool) (s rest : Text) → IsName a i s rest → IsName b j s rest
    → (a ≡ b) × (i ≡ j)
name-same a b i j s rest h k =
    let same : h.parts ≡ k.parts =
    parts-same InName h.parts k.parts rest h.are_parts k.are_parts (sym h.spelling ∙ k.spelling) in (
      sym h.means ∙ (ap (meanings InName) same ∙ k.means),
      sym h.identifier
          ∙ (ap would_start_ident same ∙ k.identifier),
    )
