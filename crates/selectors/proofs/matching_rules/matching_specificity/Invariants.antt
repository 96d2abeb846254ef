-- The specificity of the members from here on.
use Rattle.std.proofs.Common.{◌≡◌, drop, map}
use Rattle.selectors.specs.Views.{list_of_selectors, selector_view}
use Rattle.selectors_model.specs.Specificity.{matching_specificity}
use Rattle.selectors.proofs.matching_rules.matching_specificity.Given as goal

abbrev pub invariant-loop-at : goal.invariant-loop-at
invariant-loop-at l =
    l.greatest ≡ matching_specificity l.doc.document.root (list_of_selectors (map selector_view (drop l.at l.members))) l.id
