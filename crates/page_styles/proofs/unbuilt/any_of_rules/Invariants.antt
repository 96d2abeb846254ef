use Rattle.std.proofs.Common.{◌≡◌, drop, map}
use Rattle.std.specs.List.{list_any}
use Rattle.css_rules.specs.Views.{condition_lists, rule_view}
use Rattle.request_model.specs.UnbuiltStyles.{is_unbuilt_rule}
use Rattle.page_styles.proofs.unbuilt.any_of_rules.Given as goal

-- so far none was
abbrev pub invariant-loop-rule : goal.invariant-loop-rule
invariant-loop-rule l =
    list_any is_unbuilt_rule (map (rule_view (condition_lists l.conditions)) (drop l.rule-index l.rules))
    ≡ list_any is_unbuilt_rule (map (rule_view (condition_lists l.conditions)) l.rules)
