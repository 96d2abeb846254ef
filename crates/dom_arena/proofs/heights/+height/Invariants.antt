use Rattle.std.proofs.Common.{◌≡◌, ◌+◌, ◌-◌, ◌*◌, ◌^◌, ◌≤◌, map, max, min}
use Rattle.page_model.specs.Document.{heights, nodes_of}
use Rattle.page_model.specs.declared.limits.TheConstants.{MAX_NODES}
use Rattle.dom_arena.specs.Reading.{below, siblings}
use Rattle.dom_arena.specs.Slots.{cells_of, place_at, target}
use Rattle.dom_arena.proofs.heights.+height.Given as goal

-- the deepest so far or of the rest is the deepest of all, as far as a `u32` goes
abbrev pub invariant-heights-loop-index : goal.invariant-heights-loop-index
invariant-heights-loop-index l = record {
  same : min (max l.deepest (heights (nodes_of (map (below (cells_of l.slots) MAX_NODES l.levels) (siblings (place_at l.slots) (MAX_NODES - l.index) (target l.next)))))) (2 ^ 32 - 1)
      ≡ min (heights (nodes_of (map (below (cells_of l.slots) MAX_NODES l.levels) (siblings (place_at l.slots) MAX_NODES (target l.fn.first))))) (2 ^ 32 - 1);
  fits : l.deepest ≤ 2 ^ 32 - 1;
}

abbrev pub decreases-height : goal.decreases-height
decreases-height l = 2 * l.levels

abbrev pub decreases-heights : goal.decreases-heights
decreases-heights l = 2 * l.levels + 1
