use Rattle.std.proofs.Common.{take}
use Rattle.custom_props.specs.inner.Graphs.{Marks}
use Rattle.custom_props.proofs.searches.mark_all.Given as goal

-- those so far are marked
abbrev pub invariant-loop-index : goal.invariant-loop-index
invariant-loop-index l = Marks (take l.index l.places) l.fn.marks l.fn.pending l.marks l.pending
