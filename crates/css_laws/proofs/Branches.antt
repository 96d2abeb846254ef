-- Which type the computation takes of a text.
use Rattle.std.proofs.Common.{◌≡◌, ◌∙◌, ℕ, [], ◌∷◌, length, drop, false}
use Rattle.std.specs.Prelude.{codes, if◌then◌else◌}
use Rattle.css_model.specs.Classes.{Text, is_whitespace, is_quote, has_front}
use Rattle.css_model.specs.declared.token.TokenType.TheVariants.{Whitespace}
use Rattle.css_model.specs.declared.place.Place.TheVariants.{InName}
use Rattle.css_model.specs.Parts.{}
use Rattle.css_model.specs.Numerals.{numeral_text}
use Rattle.css_model.specs.TokenList.{Piece, comment, token}
use Rattle.css_model.specs.inner.Fronts.{run_in, parts_in, would_start_number, numeral_in}
use Rattle.css_model.specs.inner.Pieces.{consume_comment, consume_string, consume_numeric, other_piece, first_piece}
use Rattle.css_model.proofs.Tests.{pick-false}

-- the first piece of a text that has one
abbrev pub first_of : Text → Piece
first_of [] = comment []
first_of (c ∷ cs) = first_piece c cs

-- a number, or what is in front where none is
abbrev pub number_or_other : ℕ → Text → Piece
number_or_other c cs =
    if would_start_number (c ∷ cs) then consume_numeric (numeral_in (c ∷ cs))
    (drop (length (numeral_text (numeral_in (c ∷ cs)))) (c ∷ cs)) else other_piece
    (parts_in InName (c ∷ cs)) c cs

-- after whitespace
pub past-white : (c : ℕ) (cs : Text) → is_whitespace c ≡ false
    → first_of (c ∷ cs)
    ≡ (if is_quote c then consume_string c cs else
    (if has_front (codes "/*") (c ∷ cs) then consume_comment (drop 1 cs) else number_or_other c cs))
past-white c cs w =
    pick-false (is_whitespace c) (token Whitespace (run_in is_whitespace (c ∷ cs)))
    (if is_quote c then consume_string c cs else
    (if has_front (codes "/*") (c ∷ cs) then consume_comment (drop 1 cs) else number_or_other c cs)) w

-- after whitespace, strings and comments
pub past-comment : (c : ℕ) (cs : Text) → is_whitespace c ≡ false → is_quote c ≡ false
    → has_front (codes "/*") (c ∷ cs) ≡ false → first_of (c ∷ cs) ≡ number_or_other c cs
past-comment c cs w q k =
    past-white c cs w
    ∙ (pick-false (is_quote c) (consume_string c cs)
    (if has_front (codes "/*") (c ∷ cs) then consume_comment (drop 1 cs) else number_or_other c cs) q
    ∙ pick-false (has_front (codes "/*") (c ∷ cs)) (consume_comment (drop 1 cs)) (number_or_other c cs) k)

pub past-number : (c : ℕ) (cs : Text) → would_start_number (c ∷ cs) ≡ false
    → number_or_other c cs ≡ other_piece (parts_in InName (c ∷ cs)) c cs
past-number c cs n =
    pick-false (would_start_number (c ∷ cs))
    (consume_numeric (numeral_in (c ∷ cs)) (drop (length (numeral_text (numeral_in (c ∷ cs)))) (c ∷ cs)))
    (other_piece (parts_in InName (c ∷ cs)) c cs) n
