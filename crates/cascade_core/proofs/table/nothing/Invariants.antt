-- There is no declaration so far.
use Rattle.std.proofs.Common.{◌≡◌, ℕ, length, get_or}
use Rattle.std.specs.Prelude.{None}
use Rattle.cascade_core.proofs.table.nothing.Given as goal

abbrev pub invariant-loop-i : goal.invariant-loop-i
invariant-loop-i l = record {
  none : (k : ℕ) → get_or l.entries k None ≡ None;
  places : length l.entries ≡ l.i;
}
