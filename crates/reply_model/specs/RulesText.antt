-- The text of the reply to `rules`.
use Rattle.std.specs.Prelude.{ℕ, suc, List, [], ◌∷◌, ◌++◌, codes, length}
use Rattle.std.specs.Fmt.{decimal}
use Rattle.page_model.specs.Trees.{Text}
use Rattle.rules_model.specs.PreludeText.{prelude_text}
use Rattle.rules_model.specs.Rules.{StyleRule}
use Rattle.rules_model.specs.Sheets.{style_rules_of}
use Rattle.reply_model.specs.Spelling.{end_line, field, quoted}

-- the line of a style rule: the number of its sheet, its place there, how many conditions are around it and how many
-- declarations it has, and its prelude
unfoldable pub rule_line : ℕ → ℕ → StyleRule → List ℕ
rule_line sheet place rule =
    codes "rule" ++ (field (decimal sheet) ++ (field (decimal place) ++ (field (decimal (length rule.conditions))
    ++ (field (decimal (length rule.declarations)) ++ (field (quoted (prelude_text rule.prelude)) ++ end_line)))))

-- the lines of a sheet's rules, from a place on
abbrev pub rule_lines : ℕ → ℕ → List StyleRule → List ℕ
rule_lines sheet place [] = []
rule_lines sheet place (rule ∷ rules) = rule_line sheet place rule ++ rule_lines sheet (suc place) rules

-- the lines of all sheets, from a number on
abbrev pub sheet_lines : ℕ → List Text → List ℕ
sheet_lines sheet [] = []
sheet_lines sheet (css ∷ sheets) = rule_lines sheet 0 (style_rules_of css) ++ sheet_lines (suc sheet) sheets

abbrev pub rules_text : List Text → List ℕ
rules_text sheets = sheet_lines 0 sheets
