-- A word that may follow others.
use Rattle.std.specs.Prelude.{ℕ, List, [], ◌∷◌, if◌then◌else◌, Bool}
use Rattle.css_model.specs.Classes.{comma}
use Rattle.reply_model.specs.Spelling.{field}

-- nothing unless it holds; a space before it unless there is none before it
abbrev pub word_after : Bool → Bool → List ℕ → List ℕ
word_after none holds word = if holds then (if none then word else field word) else []

-- what follows another in a list with commas
abbrev pub after_comma : List ℕ → List ℕ
after_comma text = comma ∷ text
