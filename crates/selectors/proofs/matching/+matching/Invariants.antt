-- What each loop keeps: what is left decides what it began with.
use Rattle.std.proofs.Common.{◌≡◌, drop, length, map}
use Rattle.selectors.specs.Views.{compound_view, list_of_selectors, list_view, selector_view}
use Rattle.selectors.specs.inner.Walks.{IsInRow, LeadsFrom, elements_before}
use Rattle.selectors.proofs.WalkSteps.{AboveKept, BeforeKept}
use Rattle.selectors_model.specs.Elements.{ancestors_of}
use Rattle.selectors_model.specs.Matching as model
use Rattle.selectors.proofs.matching.+matching.Given as goal

abbrev pub invariant-compound_matches-loop-simple : goal.invariant-compound_matches-loop-simple
invariant-compound_matches-loop-simple l =
    model.compound_matches l.doc.document.root (compound_view (drop l.simple-index l.simples)) l.id
    ≡ model.compound_matches l.doc.document.root (compound_view l.simples) l.id

abbrev pub invariant-list_matches-loop-member : goal.invariant-list_matches-loop-member
invariant-list_matches-loop-member l =
    model.list_matches l.doc.document.root (list_of_selectors (map selector_view (drop l.member-index l.member-items))) l.id
    ≡ model.list_matches l.doc.document.root (list_view l.list) l.id

abbrev pub invariant-climb-loop-right : goal.invariant-climb-loop-right
invariant-climb-loop-right l = LeadsFrom l.doc.document.root l.s l.fn.start l.goal

abbrev pub decreases-climb-loop-right : goal.decreases-climb-loop-right
decreases-climb-loop-right l = l.goal.links

abbrev pub invariant-walk_chain-loop-at : goal.invariant-walk_chain-loop-at
invariant-walk_chain-loop-at l = record {
  leads : LeadsFrom l.doc.document.root l.s l.fn.start l.goal;
  row : IsInRow l.doc.document.root l.s l.fn.start l.goal;
}

abbrev pub decreases-walk_chain-loop-at : goal.decreases-walk_chain-loop-at
decreases-walk_chain-loop-at l = l.goal.links

abbrev pub invariant-walk_before-loop-at : goal.invariant-walk_before-loop-at
invariant-walk_before-loop-at l = BeforeKept l.doc.document.root l.s l.fn.right l.links l.after

abbrev pub decreases-walk_before-loop-at : goal.decreases-walk_before-loop-at
decreases-walk_before-loop-at l = length (elements_before l.doc.document.root l.after)

abbrev pub invariant-matches_above-loop-at : goal.invariant-matches_above-loop-at
invariant-matches_above-loop-at l = AboveKept l.doc.document.root l.s l.fn.right l.links l.below

abbrev pub decreases-matches_above-loop-at : goal.decreases-matches_above-loop-at
decreases-matches_above-loop-at l = length (ancestors_of l.below l.doc.document.root)
