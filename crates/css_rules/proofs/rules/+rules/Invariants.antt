-- What was found in the front, and then what is in what is left, is what is in all.
use Rattle.std.proofs.Common.{◌+◌, ◌*◌}
use Rattle.css_model.specs.Components.{component}
use Rattle.css_tokens.specs.Nested.{component_view, components_view}
use Rattle.css_rules.specs.inner.Found.{around_of}
use Rattle.css_rules.specs.inner.Reading.{left_of, total}
use Rattle.css_rules.proofs.FoundRules.{Reads}
use Rattle.css_rules.proofs.rules.+rules.Given as goal

abbrev pub invariant-find_rules-loop-first : goal.invariant-find_rules-loop-first
invariant-find_rules-loop-first l =
    Reads l.fn.found l.found (around_of l.fn.found l.around) (components_view l.fn.contents)
    (left_of l.ahead)

abbrev pub decreases-find_rules-loop-first : goal.decreases-find_rules-loop-first
decreases-find_rules-loop-first l = total (left_of l.ahead)

abbrev pub decreases-find_rules : goal.decreases-find_rules
decreases-find_rules l = 5 * total (components_view l.contents) + 4

abbrev pub decreases-find_rule : goal.decreases-find_rule
decreases-find_rule l = 5 * total (component (component_view l.first) (left_of l.ahead.now)) + 3

abbrev pub decreases-find_in_at_rule : goal.decreases-find_in_at_rule
decreases-find_in_at_rule l = 5 * total (left_of l.ahead.now) + 2

abbrev pub decreases-find_in_conditional_rule : goal.decreases-find_in_conditional_rule
decreases-find_in_conditional_rule l = 5 * total (left_of l.ahead.now) + 1

abbrev pub decreases-find_in_block : goal.decreases-find_in_block
decreases-find_in_block l = 5 * total (components_view l.contents) + 5
