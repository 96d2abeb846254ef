-- Preprocessing the text (CSS Syntax 3, section 3.3).
use Rattle.std.specs.Prelude.{ℕ, ◌==◌, ◌||◌, ◌&&◌, [], ◌∷◌, if◌then◌else◌}
use Rattle.css_model.specs.Classes.{Text, newline, replacement, is_newline, begins}

abbrev pub form_feed : ℕ
form_feed = 12

abbrev pub carriage_return : ℕ
carriage_return = 13

-- a carriage return and a form feed become a newline, and U+0000 becomes U+FFFD
abbrev pub replaced : ℕ → ℕ
replaced c =
    if (c == carriage_return) || (c == form_feed)
    then newline
    else (if c == 0 then replacement else c)

-- each code point as it is replaced, without the carriage returns that are before a newline
abbrev pub preprocessed : Text → Text
preprocessed [] = []
preprocessed (c ∷ cs) =
    if (c == carriage_return) && begins is_newline cs
    then preprocessed cs
    else replaced c ∷ preprocessed cs
