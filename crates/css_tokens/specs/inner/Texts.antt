-- What is in front of a text, and the text after it.
use Rattle.std.specs.Prelude.{◌≡◌, ℕ, ◌-◌, ◌<◌, List, [], ◌∷◌, ◌++◌, length, take, drop, true}
use Rattle.css_model.specs.Classes.{Text, has_front}

-- each of these is ASCII
abbrev pub AreAscii : List ℕ → Type 0
AreAscii [] = Unit {0}
AreAscii (b ∷ bs) = (b < 128) × AreAscii bs

-- a text begins with `front`, and then comes `rest`
abbrev pub IsAfter : Text → Text → Text → Type 0
IsAfter front cs rest = (has_front front cs ≡ true) × (cs ≡ front ++ rest)

-- a text ends with `rest`
abbrev pub IsRest : Text → Text → Type 0
IsRest cs rest = rest ≡ drop (length cs - length rest) cs

-- what is before that
abbrev pub front_of : Text → Text → Text
front_of cs rest = take (length cs - length rest) cs
