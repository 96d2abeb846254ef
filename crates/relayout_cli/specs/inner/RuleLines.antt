-- The lines of rules that are kept.
use Rattle.std.specs.Prelude.{ℕ, suc, ◌≤◌, List, [], ◌∷◌, ◌++◌, codes, flat_map, map, length, Option, Some, None, get_or}
use Rattle.std.specs.Fmt.{decimal}
use Rattle.css_model.specs.declared.token.Token.{Token}
use Rattle.css_model.specs.Components.{tokens_of, all_tokens_of}
use Rattle.css_tokens.specs.declared.component.Component.{Component}
use Rattle.css_tokens.specs.Nested.{component_view, components_view}
use Rattle.rules_model.specs.PreludeText.{token_text, prelude_text}
use Rattle.rules_model.specs.Rules as model
use Rattle.css_rules.specs.declared.sheet.Condition.{Condition}
use Rattle.css_rules.specs.declared.sheet.StyleRule.{StyleRule}
use Rattle.css_rules.specs.Views.{condition_lists}
use Rattle.reply_model.specs.Spelling.{in_quotes, field, end_line, quoted}
use Rattle.reply_model.specs.RulesText.{rule_lines}

-- ---- preludes

-- tokens as they stand between quotes
abbrev pub tokens_in_quotes : List Token → List ℕ
tokens_in_quotes ts = flat_map in_quotes (flat_map token_text ts)

abbrev pub component_in_quotes : Component → List ℕ
component_in_quotes c = tokens_in_quotes (tokens_of (component_view c))

abbrev pub components_in_quotes : List Component → List ℕ
components_in_quotes cs = tokens_in_quotes (all_tokens_of (components_view cs))

-- ---- conditions

-- for each place, how many conditions there are up to the one in it
abbrev pub condition_counts : List Condition → List ℕ
condition_counts conditions = map (length {A = model.Condition}) (condition_lists conditions)

-- how many conditions there are up to the one in a place, where these are those of all places
abbrev pub count_at : List ℕ → Option ℕ → ℕ
count_at counts None = 0
count_at counts (Some place) = get_or counts place 0

-- none of them is greater
abbrev pub AreAtMost : ℕ → List ℕ → Type 0
AreAtMost n [] = Unit {0}
AreAtMost n (count ∷ counts) = (count ≤ n) × AreAtMost n counts

-- ---- lines

-- the line of a rule with so many conditions around it
abbrev pub kept_line : ℕ → ℕ → ℕ → StyleRule → List ℕ
kept_line sheet place conditions rule =
    codes "rule" ++ (field (decimal sheet) ++ (field (decimal place) ++ (field (decimal conditions)
    ++ (field (decimal (length rule.declarations))
    ++ (field (quoted (prelude_text (components_view rule.prelude))) ++ end_line)))))

-- the lines of sheets of these rules, from a number on
abbrev pub lines_of_all : ℕ → List (List model.StyleRule) → List ℕ
lines_of_all number [] = []
lines_of_all number (rules ∷ others) = rule_lines number 0 rules ++ lines_of_all (suc number) others
