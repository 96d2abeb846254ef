-- What becomes of the code points of a text, one after another.
use Rattle.std.specs.Prelude.{ℕ, ◌==◌, ◌&&◌, not, Bool, [], ◌∷◌, if◌then◌else◌}
use Rattle.css_model.specs.Classes.{Text, is_newline}
use Rattle.css_model.specs.Preprocessing.{carriage_return, form_feed, replaced}

-- preprocessing does not change it
abbrev pub is_kept : ℕ → Bool
is_kept c = not (c == carriage_return) && (not (c == form_feed) && not (c == 0))

-- what is kept of a code point after this one
abbrev pub kept_after : ℕ → ℕ → Text
kept_after before c = if (before == carriage_return) && is_newline c then [] else replaced c ∷ []

-- the last code point of a text, or the one before it
abbrev pub last_after : ℕ → Text → ℕ
last_after before [] = before
last_after before (c ∷ cs) = last_after c cs
