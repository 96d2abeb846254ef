-- Sheets and `style` attributes as texts, and the limits of them.
use Rattle.std.specs.Prelude.{◌≡◌, ℕ, nat_lt, if◌then◌else◌, List, [], ◌∷◌, length, encode_utf8_all, Option, Some, None, Bool}
use Rattle.std.specs.Map.{lookup}
use Rattle.css_model.specs.declared.token.TheConstants.{MAX_NESTING}
use Rattle.css_model.specs.Classes.{Text}
use Rattle.css_model.specs.Components.{Components, depths}
use Rattle.css_model.specs.inner.Nesting.{nesting}
use Rattle.css_model.specs.inner.Pieces.{tokens}
use Rattle.rules_model.specs.declared.limits.TheConstants.{MAX_SHEET_BYTES, MAX_STYLE_RULES}
use Rattle.rules_model.specs.declared.sheet_limit.SheetLimit.{SheetLimit}
use Rattle.rules_model.specs.declared.sheet_limit.SheetLimit.TheVariants.{TooLarge, TooDeep, TooManyRules}
use Rattle.rules_model.specs.Declarations.{Declaration, declarations_of}
use Rattle.rules_model.specs.Rules.{StyleRule, rules_of}

-- the component values of a text: there is one list that IsTokenList and IsComponents allow
abbrev pub components_of : Text → Components
components_of text = nesting (tokens text)

-- the style rules of a sheet (CSS Syntax 3, section 5.3.3)
abbrev pub style_rules_of : Text → List StyleRule
style_rules_of text = rules_of (components_of text)

-- the declarations of a `style` attribute (5.3.8); one that nests too deep has none
abbrev pub style_attr_of : Text → List Declaration
style_attr_of text =
    if nat_lt MAX_NESTING (depths (components_of text)) then [] else declarations_of (components_of text)

-- ---- limits

-- what of a sheet has a limit: its bytes in UTF-8, how deep it nests, and the number of its rules
pub record SheetSize : Type 0 where
  pub bytes : ℕ
  pub levels : ℕ
  pub rules : ℕ

abbrev pub size_of_sheet : Text → SheetSize
size_of_sheet text = record {
  bytes = length (encode_utf8_all text);
  levels = depths (components_of text);
  rules = length (style_rules_of text);
}

-- the limits in the order in which they are asked, each with whether a sheet is above it
abbrev pub sheet_limits : SheetSize → List (Bool × SheetLimit)
sheet_limits size =
    (nat_lt MAX_SHEET_BYTES size.bytes, TooLarge)
    ∷ (nat_lt MAX_NESTING size.levels, TooDeep)
    ∷ (nat_lt MAX_STYLE_RULES size.rules, TooManyRules)
    ∷ []

-- the first limit that a sheet is above
abbrev pub first_limit : List (Bool × SheetLimit) → Option SheetLimit
first_limit limits = lookup (λ above. above) limits

-- the limit that refuses a sheet
abbrev pub limit_of_sheet : Text → Option SheetLimit
limit_of_sheet text = first_limit (sheet_limits (size_of_sheet text))

-- this limit refuses a sheet; `None` is want of memory, which may come at any time
abbrev pub IsRefusedBy : Text → Option SheetLimit → Type 0
IsRefusedBy text None = Unit {0}
IsRefusedBy text (Some limit) = limit_of_sheet text ≡ Some limit
