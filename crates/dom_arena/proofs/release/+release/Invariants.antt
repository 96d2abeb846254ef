use Rattle.std.proofs.Common.{◌≡◌, ◌+◌, ◌*◌, List, length}
use Rattle.page_model.specs.Document.{Node}
use Rattle.dom_arena.specs.Built.{AreBranches}
use Rattle.dom_arena.specs.Slots.{target}
use Rattle.dom_arena.specs.Views.{kept}
use Rattle.dom_arena.proofs.Releases.{Going}
use Rattle.dom_arena.proofs.release.+release.Given as goal

-- the first of the siblings are released, and `at` leads to the next
abbrev pub invariant-release_children-loop-index : goal.invariant-release_children-loop-index
invariant-release_children-loop-index l =
    (ns : List Node) → AreBranches (kept l.fn.store) (target l.fn.first) l.fn.levels ns → length ns ≡ l.fn.count → Going (kept l.fn.store) (kept l.store) (target l.at) l.index ns

abbrev pub decreases-release_children : goal.decreases-release_children
decreases-release_children l = 2 * l.levels + 1

abbrev pub decreases-release_tree : goal.decreases-release_tree
decreases-release_tree l = 2 * l.levels
