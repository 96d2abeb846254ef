-- The declarations of the `style` attribute of an element.
use Rattle.std.proofs.Common.{◌≡◌, ◌∙◌, ap, sym, refl, ℕ, List, [], Some, None}
use Rattle.std.specs.Prelude.{Option, codes, encode_utf8_all, option_map, unwrap_or}
use Rattle.std.specs.Str.{IsUtf8, chars}
use Rattle.std.proofs.lemmas.Option.{none-some, same_Some}
use Rattle.std.proofs.lemmas.Str.{chars_from_encodes}
use Rattle.css_model.specs.Classes.{Text}
use Rattle.page_model.specs.Document.{Node, value_at}
use Rattle.rules_model.specs.Declarations as declarations
use Rattle.rules_model.specs.Sheets.{style_attr_of}
use Rattle.cascade_model.specs.DocumentStyles.{inline_declarations}
use Rattle.cascade_model.specs.Kept.{Kept, kept_declarations}

style-chars : chars (codes "style") ≡ codes "style"
unfolding chars
style-chars = refl

chars-read : (value : Option Text) (bytes : List ℕ) → IsUtf8 bytes → Some bytes ≡ option_map encode_utf8_all value
    → value ≡ Some (chars bytes)
chars-read None bytes utf8 read = absurd (none-some bytes (sym read))
chars-read (Some cs) bytes utf8 read =
    ap Some (chars_from_encodes cs bytes utf8 (sym (same_Some bytes (encode_utf8_all cs) read)))

nothing-read : (value : Option Text) → None ≡ option_map encode_utf8_all value → value ≡ None
nothing-read None read = refl
nothing-read (Some cs) read = absurd (none-some (encode_utf8_all cs) read)

-- the same of what the attribute spells
abbrev declared : Option Text → List Kept
declared value = unwrap_or (option_map (λ text. kept_declarations (style_attr_of text)) value) []

-- it spells these declarations
pub inline-read : (root : Node) (i : ℕ) (bytes : List ℕ) (ds : List declarations.Declaration) → IsUtf8 bytes
    → Some bytes ≡ option_map encode_utf8_all (value_at (chars (codes "style")) i root)
    → ds ≡ style_attr_of (chars bytes) → kept_declarations ds ≡ inline_declarations root i
inline-read root i bytes ds utf8 read spelled =
    ap kept_declarations spelled
    ∙ sym (ap declared (ap (λ name. value_at name i root) (sym style-chars)
    ∙ chars-read (value_at (chars (codes "style")) i root) bytes utf8 read))

-- there is none
pub inline-none : (root : Node) (i : ℕ) → None ≡ option_map encode_utf8_all (value_at (chars (codes "style")) i root)
    → [] ≡ inline_declarations root i
inline-none root i read =
    sym (ap declared (ap (λ name. value_at name i root) (sym style-chars)
    ∙ nothing-read (value_at (chars (codes "style")) i root) read))
