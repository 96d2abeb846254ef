use Rattle.std.proofs.Common.{List, ap, map, sym, take, ℕ, ◌∙◌}
use Rattle.page_model.specs.Trees.{trees_of}
use Rattle.dom_arena.specs.Measures.{joined, measures_of}
use Rattle.dom_arena.specs.Shape.{shape}
use Rattle.dom_arena.specs.declared.tree.Tree.{Tree}
use Rattle.dom_arena.proofs.Measures.{measured-next}
use Rattle.dom_arena.proofs.Shapes.{shapes-next}
use Rattle.dom_arena.proofs.sizes.+measure.Goals as goal

pub measure_all-loop-child-preserved : goal.measure_all-loop-child-preserved
measure_all-loop-child-preserved t c =
    let ts : List Tree = c.args.children.now in
    let i : ℕ = c.loop-child.child-index in
    let child : Tree = c.child-item.result in
    c.together-all.ensures
    ∙ ((λ j. joined (c.loop-child.invariant j) (c.measure.ensures j))
    ∙ (measured-next (map shape (take i ts)) (shape child) ∙ sym (ap (λ zs. measures_of (trees_of zs)) (shapes-next ts i child c.loop-child-test.true c.child-item.is))))
