use Rattle.std.proofs.Common.{◌≡◌, ◌+◌, ◌*◌, ◌++◌}
use Rattle.selectors_model.specs.Matching.{elements_among}
use Rattle.relayout_cli.specs.inner.Walk.{nodes_at, AllReach}
use Rattle.relayout_cli.proofs.elements.+elements.Given as goal

abbrev pub decreases-push_elements : goal.decreases-push_elements
decreases-push_elements l = 2 * l.levels

-- the ids so far and those of the rest are those of all
abbrev pub invariant-push_elements_among-loop-kid : goal.invariant-push_elements_among-loop-kid
invariant-push_elements_among-loop-kid l = record {
  found : l.ids ++ elements_among (nodes_at l.kid-iterator l.doc.document.root) ≡ l.fn.ids ++ elements_among (nodes_at l.fn.kids l.doc.document.root);
  reach : AllReach l.levels l.kid-iterator l.doc.document.root;
}

abbrev pub decreases-push_elements_among : goal.decreases-push_elements_among
decreases-push_elements_among l = 2 * l.levels + 1
