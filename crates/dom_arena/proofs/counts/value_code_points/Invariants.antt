use Rattle.std.proofs.Common.{◌≡◌, ◌+◌, ◌-◌, ◌^◌, ◌≤◌, min, drop}
use Rattle.page_model.specs.Trees.{value_size}
use Rattle.dom_arena.proofs.counts.value_code_points.Given as goal

-- what is counted and the rest are all, as far as a `u64` goes
abbrev pub invariant-loop-value : goal.invariant-loop-value
invariant-loop-value l = record {
  same : min (l.total + value_size (drop l.value-index l.attributes)) (2 ^ 64 - 1) ≡ min (value_size l.attributes) (2 ^ 64 - 1);
  fits : l.total ≤ 2 ^ 64 - 1;
}
