use Rattle.std.proofs.Common.{take}
use Rattle.custom_props.specs.Views.{values_view}
use Rattle.custom_props.specs.inner.Tables.{IsFilling}
use Rattle.custom_props.proofs.table.fill_all.Given as goal

-- the places so far are filled
abbrev pub invariant-loop-index : goal.invariant-loop-index
invariant-loop-index l =
    IsFilling (record { declared = values_view l.declared.values; inherited = values_view l.inherited.values })
    (take l.index l.order) l.table
