use Rattle.std.proofs.Common.{◌+◌, ◌*◌, take, map}
use Rattle.page_model.specs.Trees.{elem, trees_of, size}
use Rattle.dom_arena.specs.Built.{Built}
use Rattle.dom_arena.specs.Shape.{shape}
use Rattle.dom_arena.specs.Views.{kept}
use Rattle.dom_arena.proofs.build.+build.Given as goal

-- the element stands with its first children
abbrev pub invariant-build_element-loop-i : goal.invariant-build_element-loop-i
invariant-build_element-loop-i l = Built (kept l.fn.store) (kept l.store) (elem l.name l.attributes (trees_of (map shape (take l.i l.children)))) l.at

abbrev pub decreases-build : goal.decreases-build
decreases-build l = 2 * size (shape l.tree.now) + 1

abbrev pub decreases-build_element : goal.decreases-build_element
decreases-build_element l = 2 * size (elem l.name.now l.attributes.now (trees_of (map shape l.children.now)))
