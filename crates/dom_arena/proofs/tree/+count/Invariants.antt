use Rattle.std.proofs.Common.{◌≡◌, ◌+◌, ◌-◌, ◌^◌, ◌≤◌, min, drop, map}
use Rattle.page_model.specs.Trees.{trees_of, sizes}
use Rattle.dom_arena.specs.Shape.{shape}
use Rattle.dom_arena.proofs.tree.+count.Given as goal

-- what is counted and the rest are all, as far as a `u32` goes
abbrev pub invariant-count_all-loop-child : goal.invariant-count_all-loop-child
invariant-count_all-loop-child l = record {
  same : min (l.nodes + sizes (trees_of (map shape (drop l.child-index l.children)))) (2 ^ 32 - 1) ≡ min (sizes (trees_of (map shape l.children))) (2 ^ 32 - 1);
  fits : l.nodes ≤ 2 ^ 32 - 1;
}
