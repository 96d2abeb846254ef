-- The declarations of those up to one were taken.
use Rattle.std.proofs.Common.{drop}
use Rattle.cascade_core.specs.inner.BothTables.{Reaches}
use Rattle.cascade_core.specs.inner.Matches.{applied_at_all}
use Rattle.cascade_core.proofs.cascading.take_matched.Given as goal

abbrev pub invariant-loop-i : goal.invariant-loop-i
invariant-loop-i g l =
    Reaches l.fn.tables l.tables (applied_at_all l.book.bodies l.matched.pairs l.answers)
    (applied_at_all l.book.bodies (drop l.i l.matched.pairs) (drop l.i l.answers))
