-- The style sheets that the program keeps.
use Rattle.std.specs.Prelude.{◌≡◌, ℕ, List, map, Bool, not}
use Rattle.page_model.specs.Trees.{Text}
use Rattle.rules_model.specs.Rules.{StyleRule}
use Rattle.rules_model.specs.Sheets.{style_rules_of}
use Rattle.request_model.specs.States.{is_empty}
use Rattle.css_rules.specs.declared.sheet.Sheet.{Sheet}
use Rattle.css_rules.specs.Views.{sheet_view}

-- their texts
abbrev pub texts_of : List Sheet → List Text
texts_of sheets = map (λ (s : Sheet). s.text) sheets

-- the rules that are kept of them
abbrev pub kept_rules : List Sheet → List (List StyleRule)
kept_rules sheets = map sheet_view sheets

-- the rules of their texts
abbrev pub text_rules : List Sheet → List (List StyleRule)
text_rules sheets = map (λ (s : Sheet). style_rules_of s.text) sheets

-- the rules that are kept are those of the texts: whatever is printed of them is printed of those too
abbrev pub AreParsed : List Sheet → Type 0
AreParsed sheets = (print : List (List StyleRule) → List ℕ)
    → print (kept_rules sheets) ≡ print (text_rules sheets)

-- a sheet of these rules has one
abbrev pub has_rules : List StyleRule → Bool
has_rules rules = not (is_empty rules)
