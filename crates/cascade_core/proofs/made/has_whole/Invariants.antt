-- None so far is kept whole.
use Rattle.std.proofs.Common.{◌≡◌, drop}
use Rattle.std.specs.List.{list_any}
use Rattle.cascade_core.specs.inner.Mades.{is_whole}
use Rattle.cascade_core.proofs.made.has_whole.Given as goal

abbrev pub invariant-loop-entry : goal.invariant-loop-entry
invariant-loop-entry l = list_any is_whole l.fn.entries ≡ list_any is_whole (drop l.entry-index l.entries)
