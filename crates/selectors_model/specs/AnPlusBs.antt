-- `An+B`: how it is written (CSS Syntax 3, sections 6.1 and 6.2), and which positions it means.
use Rattle.std.specs.Prelude.{ℕ, ◌==◌, ◌&&◌, not, if◌then◌else◌, List, [], ◌∷◌, codes, drop, ℤ, pos, neg_ℤ, nat_abs, ◌-ℤ◌, int_div, int_rem, int_le, Option, Some, None, option_map, Bool}
use Rattle.std.specs.Int.{int_min, int_max}
use Rattle.std.specs.List.{list_all, starts_with}
use Rattle.std.specs.Char.{eq_ignore_ascii_case}
use Rattle.std.specs.Str.{str_eq_ignore_ascii_case}
use Rattle.css_model.specs.declared.token.Number.{Number as NumberValue}
use Rattle.css_model.specs.declared.token.TokenType.{TokenType}
use Rattle.css_model.specs.declared.token.TokenType.TheVariants.{Ident, Delim, Number, Dimension}
use Rattle.css_model.specs.Classes.{Text, plus, hyphen, is_digit, is_empty}
use Rattle.css_model.specs.Numerals.{decimal_after}
use Rattle.selectors_model.specs.declared.an_plus_b.AnPlusB.{AnPlusB}
use Rattle.selectors_model.specs.declared.an_plus_b.TheConstants.{MAX_AN_PLUS_B}
use Rattle.selectors_model.specs.TokenTypes.{without_front_whitespace, without_whitespace}

-- ---- numbers

-- clamped to what A and B may be
abbrev pub clamped : ℤ → ℤ
clamped n = int_max (neg_ℤ MAX_AN_PLUS_B) (int_min MAX_AN_PLUS_B n)

-- the value of an integer
abbrev pub integer_value : NumberValue → ℤ
integer_value n = clamped (int_div n.millionths (pos 1000000))

-- the value of a <signed-integer>: an integer that is written with a sign
abbrev pub signed_integer : NumberValue → Option ℤ
signed_integer n = if n.is_integer && n.is_signed then Some (integer_value n) else None

-- the value of a <signless-integer>
abbrev pub signless_integer : NumberValue → Option ℤ
signless_integer n = if n.is_integer && not n.is_signed then Some (integer_value n) else None

-- ---- the productions

-- A and B, if B is right
abbrev pub an_plus_b : ℤ → Option ℤ → Option AnPlusB
an_plus_b a b = option_map (λ offset. record { step = a; offset = offset }) b

-- a <signless-integer> alone, after a `-`
abbrev pub subtracted : List TokenType → Option ℤ
subtracted (Number n ∷ []) = option_map (λ b. neg_ℤ b) (signless_integer n)
subtracted other = None

-- what may be after an `n`: nothing, a <signed-integer>, or a sign and a <signless-integer>
abbrev pub after_n : List TokenType → Option ℤ
after_n [] = Some (pos 0)
after_n (Number n ∷ []) = signed_integer n
after_n (Delim c ∷ Number n ∷ []) =
    if c == plus then signless_integer n
    else if c == hyphen then subtracted (Number n ∷ [])
    else None
after_n other = None

-- B, where nothing is after it
abbrev pub alone : ℤ → List TokenType → Option ℤ
alone b [] = Some b
alone b (t ∷ ts) = None

-- the name is `n-` and digits
abbrev pub is_n_and_digits : Text → Bool
is_n_and_digits name =
    starts_with eq_ignore_ascii_case name (codes "n-")
    && (list_all is_digit (drop 2 name) && not (is_empty (drop 2 name)))

-- A, the name that is its `n`, perhaps with a `-` and the digits of B, and what is after that
abbrev pub from_n : ℤ → Text → List TokenType → Option AnPlusB
from_n a name ts =
    if str_eq_ignore_ascii_case name (codes "n") then an_plus_b a (after_n ts)
    else if str_eq_ignore_ascii_case name (codes "n-") then an_plus_b a (subtracted ts)
    else if is_n_and_digits name
    then an_plus_b a (alone (clamped (neg_ℤ (pos (decimal_after 0 (drop 2 name))))) ts)
    else None

-- a name that begins with `n`, with `-` and `n`, or is `odd` or `even`, and what is after it
abbrev pub from_name : Text → List TokenType → Option AnPlusB
from_name [] ts = None
from_name (c ∷ name) ts =
    if str_eq_ignore_ascii_case (c ∷ name) (codes "odd") then an_plus_b (pos 2) (alone (pos 1) ts)
    else if str_eq_ignore_ascii_case (c ∷ name) (codes "even") then an_plus_b (pos 2) (alone (pos 0) ts)
    else if c == hyphen then from_n (neg_ℤ (pos 1)) name ts
    else from_n (pos 1) (c ∷ name) ts

-- what is right after a `+`, with no white space between: a name that begins with `n`
abbrev pub after_plus : List TokenType → Option AnPlusB
after_plus (Ident name ∷ ts) = from_n (pos 1) name (without_whitespace ts)
after_plus other = None

-- `An+B` without white space in front
abbrev pub an_plus_b_from : List TokenType → Option AnPlusB
an_plus_b_from (Ident name ∷ ts) = from_name name (without_whitespace ts)
an_plus_b_from (Delim c ∷ ts) = if c == plus then after_plus ts else None
an_plus_b_from (Number n ∷ ts) =
    if n.is_integer then an_plus_b (pos 0) (alone (integer_value n) (without_whitespace ts)) else None
an_plus_b_from (Dimension n unit ∷ ts) =
    if n.is_integer then from_n (integer_value n) unit (without_whitespace ts) else None
an_plus_b_from other = None

-- the `An+B` that tokens of these types spell
abbrev pub an_plus_b_of : List TokenType → Option AnPlusB
an_plus_b_of ts = an_plus_b_from (without_front_whitespace ts)

-- ---- positions

-- d is a n for an n that is 0 or more
abbrev pub is_multiple : ℤ → ℤ → Bool
is_multiple a d = (nat_abs (int_rem d a) == 0) && int_le (pos 0) (int_div d a)

-- the position is A n + B for an n that is 0 or more
abbrev pub is_position : AnPlusB → ℕ → Bool
is_position at position =
    if nat_abs at.step == 0 then nat_abs (pos position -ℤ at.offset) == 0
    else is_multiple at.step (pos position -ℤ at.offset)
