-- The values so far, and those of the entries after them, are the values of all.
use Rattle.std.proofs.Common.{◌≡◌, ◌++◌, drop}
use Rattle.custom_props.specs.Views.{values_view}
use Rattle.cascade_core.specs.inner.Customs.{custom_values}
use Rattle.cascade_core.proofs.customs.Customs.declared.Given as goal

abbrev pub invariant-loop-winner : goal.invariant-loop-winner
invariant-loop-winner l =
    custom_values l.self.entries.items
    ≡ values_view l.values ++ custom_values (drop l.winner-index l.winner-items)
