-- The specificity of what is walked over, from the right in compounds and lists.
use Rattle.std.proofs.Common.{◌≡◌, drop, take, map, fold}
use Rattle.selectors_model.specs.Selectors.{compound}
use Rattle.selectors_model.specs.Specificity as model
use Rattle.selectors.specs.declared.selector.Selector.{out-Selector}
use Rattle.selectors.specs.Views.{after_link, compound_view, link_view, list_of_selectors, selector_view}
use Rattle.selectors.proofs.specificities.+specificity.Given as goal

abbrev pub invariant-compound_specificity-loop-at : goal.invariant-compound_specificity-loop-at
invariant-compound_specificity-loop-at l =
    l.sum ≡ model.compound_specificity (compound_view (drop l.at l.simples))

abbrev pub invariant-greatest_specificity-loop-at : goal.invariant-greatest_specificity-loop-at
invariant-greatest_specificity-loop-at l =
    l.greatest ≡ model.greatest_specificity (list_of_selectors (map selector_view (drop l.at l.members)))

abbrev pub invariant-specificity-loop-link : goal.invariant-specificity-loop-link
invariant-specificity-loop-link l =
    l.sum ≡ model.specificity (fold after_link (compound (compound_view (out-Selector l.s).first))
    (map link_view (take l.link-index l.link-items)))
