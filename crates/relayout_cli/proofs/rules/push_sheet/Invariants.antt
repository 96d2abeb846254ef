use Rattle.std.proofs.Common.{◌≡◌, ◌++◌, drop, map, string_bytes}
use Rattle.reply_model.specs.RulesText.{rule_lines}
use Rattle.css_rules.specs.Views.{condition_lists, rule_view}
use Rattle.relayout_cli.proofs.rules.push_sheet.Given as goal

-- the lines so far and those of the other rules are those of all
abbrev pub invariant-loop-place : goal.invariant-loop-place
invariant-loop-place l =
    string_bytes l.reply ++ rule_lines l.number l.place (map (rule_view (condition_lists l.sheet.conditions)) (drop l.place l.rules))
    ≡ string_bytes l.fn.reply ++ rule_lines l.number 0 (map (rule_view (condition_lists l.sheet.conditions)) l.rules)
