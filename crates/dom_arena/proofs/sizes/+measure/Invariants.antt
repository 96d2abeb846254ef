use Rattle.std.proofs.Common.{◌≡◌, map, take}
use Rattle.page_model.specs.Trees.{trees_of}
use Rattle.dom_arena.specs.Measures.{measures_of}
use Rattle.dom_arena.specs.Shape.{shape}
use Rattle.dom_arena.proofs.sizes.+measure.Given as goal

-- the first children are measured
abbrev pub invariant-measure_all-loop-child : goal.invariant-measure_all-loop-child
invariant-measure_all-loop-child l = l.all ≡ measures_of (trees_of (map shape (take l.child-index l.children)))
