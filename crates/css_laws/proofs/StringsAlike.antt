-- Strings and bad strings of one spelling.
use Rattle.std.proofs.Common.{◌≡◌, ◌∙◌, sym, ap, refl, subst, ℕ, suc, ◌+◌, ◌==◌, List, [], ◌∷◌, ◌++◌, length, drop, Bool, true, false, ◌||◌, not, arith, append_assoc, length-append, eqb-true, inl, inr}
use Rattle.std.proofs.lemmas.Bool.{false≢true, cond_both}
use Rattle.std.specs.Prelude.{codes, if◌then◌else◌}
use Rattle.css_model.specs.Classes.{Text, is_newline, is_whitespace, is_quote, begins, has_front}
use Rattle.css_model.specs.declared.token.TokenType.{TokenType}
use Rattle.css_model.specs.declared.token.TokenType.TheVariants.{String, BadString}
use Rattle.css_model.specs.declared.place.Place.TheVariants.{InString}
use Rattle.css_model.specs.Parts.{Part, parts_text, meanings}
use Rattle.css_model.specs.Spellings.{IsEnd, IsString, IsBadString}
use Rattle.css_model.specs.TokenList.{Piece, token}
use Rattle.css_model.specs.inner.Fronts.{parts_in, after_parts}
use Rattle.css_model.specs.inner.Pieces.{consume_comment, string_of_parts, consume_string}
use Rattle.css_model.proofs.Tests.{or-cases, pick-true}
use Rattle.css_model.proofs.PartLemmas.{parts_in-stop}
use Rattle.css_model.proofs.FirstStrings.{stops-at-end, parts-stopped, string-stop, quote-same}
use Rattle.css_laws.proofs.Branches.{first_of, number_or_other, past-white}
use Rattle.css_laws.proofs.Meets.{Meets, meet}

-- ---- the parts of a string

-- what is after the quote of a spelling
abbrev behind_quote : Text → Text → Text
behind_quote s rest = drop 1 (s ++ rest)

string-parts : (value s rest : Text) → (h : IsString value s rest)
    → parts_in (InString h.quote) (behind_quote s rest) ≡ h.parts
string-parts value s rest h =
    ap (λ xs. parts_in (InString h.quote) (behind_quote xs rest)) h.spelling
    ∙ (ap (parts_in (InString h.quote)) (append_assoc (parts_text h.parts) h.end rest)
    ∙ parts-stopped (InString h.quote) h.parts (h.end ++ rest) h.are_parts
    (stops-at-end (InString h.quote) h.quote (string-stop h.quote h.is_quoted) h.end rest h.ends))

or-last : (b : Bool) → not (b || true) ≡ false
or-last true = refl
or-last false = refl

newline-stop : (quote : ℕ) (cs : Text) → begins is_newline cs ≡ true → parts_in (InString quote) cs ≡ []
newline-stop quote [] h = absurd (false≢true h)
newline-stop quote (c ∷ cs) h =
    subst (λ x. parts_in (InString quote) (x ∷ cs) ≡ []) (sym (eqb-true c 10 h))
    (parts_in-stop (InString quote) 10 cs (or-last (10 == quote)))

bad_string-parts : (s rest : Text) → (h : IsBadString s rest)
    → parts_in (InString h.quote) (behind_quote s rest) ≡ h.parts
bad_string-parts s rest h =
    ap (λ xs. parts_in (InString h.quote) (behind_quote xs rest)) h.spelling
    ∙ parts-stopped (InString h.quote) h.parts rest h.are_parts (newline-stop h.quote rest h.before_newline)

-- ---- two of one spelling

string-same : (a b s rest : Text) → IsString a s rest → IsString b s rest → a ≡ b
string-same a b s rest h k =
    let quote : h.quote ≡ k.quote =
    quote-same h.quote k.quote (parts_text h.parts ++ h.end) (parts_text k.parts ++ k.end)
    (sym h.spelling ∙ k.spelling) in
    let parts : h.parts ≡ k.parts = sym (string-parts a s rest h)
    ∙ (ap (λ q. parts_in (InString q) (behind_quote s rest)) quote ∙ string-parts b s rest k) in
    sym h.means ∙ ((λ j. meanings (InString (quote j)) (parts j)) ∙ k.means)

-- what ends a string is something, before a newline
end-some : (quote : ℕ) (end rest : Text) → IsEnd (quote ∷ []) end rest → begins is_newline rest ≡ true
    → length end ≡ 1
end-some quote end rest (inl e) n = ap length e
end-some quote end rest (inr e) n = absurd (false≢true (sym (ap (begins is_newline) e.1) ∙ n))

string-no_bad : (value s rest : Text) → IsString value s rest → IsBadString s rest → ⊥
string-no_bad value s rest h k =
    let quote : h.quote ≡ k.quote =
    quote-same h.quote k.quote (parts_text h.parts ++ h.end) (parts_text k.parts)
    (sym h.spelling ∙ k.spelling) in
    let parts : h.parts ≡ k.parts = sym (string-parts value s rest h)
    ∙ (ap (λ q. parts_in (InString q) (behind_quote s rest)) quote ∙ bad_string-parts s rest k) in
    let mine : length s ≡ suc (length (parts_text h.parts) + length h.end) = ap length h.spelling
    ∙ ap suc (length-append (parts_text h.parts) h.end) in
    let theirs : length s ≡ suc (length (parts_text k.parts)) = ap length k.spelling in
    let same : length (parts_text h.parts) ≡ length (parts_text k.parts) =
    ap (λ ps. length (parts_text ps)) parts in
    let one : length h.end ≡ 1 = end-some h.quote h.end rest h.ends k.before_newline in
    absurd (omega (arith, mine, theirs, same, one))

-- ---- each of them against both

-- a string or bad string that is spelled so is of this type
pub record StringsAre (token_type : TokenType) (s rest : Text) : Type 0 where
  pub as_string : (value : Text) → IsString value s rest → token_type ≡ String value
  pub as_bad_string : IsBadString s rest → token_type ≡ BadString

pub string-are : (value s rest : Text) → IsString value s rest → StringsAre (String value) s rest
string-are value s rest h = record {
  as_string = λ b k. ap String (string-same value b s rest h k);
  as_bad_string = λ k. absurd (string-no_bad value s rest h k);
}

pub bad_string-are : (s rest : Text) → IsBadString s rest → StringsAre BadString s rest
bad_string-are s rest h = record {
  as_string = λ b k. absurd (string-no_bad b s rest k h);
  as_bad_string = λ k. refl;
}

-- ---- the first piece

string-meets : (token_type : TokenType) (s rest : Text) → StringsAre token_type s rest
    → (quote : ℕ) (parts : List Part) (behind : Text)
    → Meets token_type s rest (string_of_parts quote parts behind)
string-meets token_type s rest are quote parts [] =
    meet _ _ _ _ _ (are.as_string (meanings (InString quote) parts))
string-meets token_type s rest are quote parts (c ∷ cs) =
    cond_both (c == quote)
    (token (String (meanings (InString quote) parts)) (quote ∷ (parts_text parts ++ (quote ∷ []))))
    (token BadString (quote ∷ parts_text parts)) (Meets token_type s rest)
    (λ t. meet _ _ _ _ _ (are.as_string (meanings (InString quote) parts)))
    (λ n. meet _ _ _ _ _ are.as_bad_string)

quote-no_white : (c : ℕ) → is_quote c ≡ true → is_whitespace c ≡ false
quote-no_white c h = elim (or-cases (c == 34) (c == 39) h) [
  | inl t ↦ subst (λ x. is_whitespace x ≡ false) (sym (eqb-true c 34 t)) refl
  | inr t ↦ subst (λ x. is_whitespace x ≡ false) (sym (eqb-true c 39 t)) refl
]

pub strings-first : (token_type : TokenType) (s rest : Text) → StringsAre token_type s rest → (cs : Text)
    → begins is_quote cs ≡ true → Meets token_type s rest (first_of cs)
strings-first token_type s rest are [] h = absurd (false≢true h)
strings-first token_type s rest are (c ∷ cs) h =
    let other : Piece =
    if has_front (codes "/*") (c ∷ cs) then consume_comment (drop 1 cs) else number_or_other c cs in
    let parts : List Part = parts_in (InString c) cs in
    subst (Meets token_type s rest)
    (sym (past-white c cs (quote-no_white c h) ∙ pick-true (is_quote c) (consume_string c cs) other h))
    (string-meets token_type s rest are c parts (after_parts parts cs))
