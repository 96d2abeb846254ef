-- Numbers in `An+B`.
use Rattle.std.specs.Prelude.{ℕ, ◌≡◌, List, [], ◌∷◌, drop, nat_lt, Option, Some, None, Bool, true, false}
use Rattle.std.specs.List.{list_all}
use Rattle.css_model.specs.declared.token.Number.{Number as NumberValue}
use Rattle.css_model.specs.declared.token.TokenType.{TokenType}
use Rattle.css_model.specs.declared.token.TokenType.TheVariants.{Number}
use Rattle.selectors_model.specs.AnPlusBs.{is_n_and_digits}

-- a number, and nothing else
abbrev pub only_number : List TokenType → Option NumberValue
only_number (Number n ∷ []) = Some n
only_number other = None

-- each of these is in ASCII
abbrev pub is_low : List ℕ → Bool
is_low cs = list_all (λ c. nat_lt c 128) cs

-- the digits after `n-`, if the name is that and digits
abbrev pub AreDigits : Option (List ℕ) → List ℕ → Type 0
AreDigits None name = is_n_and_digits name ≡ false
AreDigits (Some digits) name = (is_n_and_digits name ≡ true) × (digits ≡ drop 2 name)
