use Rattle.std.proofs.Common.{◌≡◌, ◌++◌, drop, map}
use Rattle.custom_model.specs.NamedValues.{value_named}
use Rattle.custom_props.specs.Views.{values_view}
use Rattle.custom_props.specs.inner.EntryViews.{entry_view}
use Rattle.custom_props.proofs.table.inherited_entries.Given as goal

-- the entries so far and those of the rest are all
abbrev pub invariant-loop-declaration : goal.invariant-loop-declaration
invariant-loop-declaration l =
    map entry_view l.entries
    ++ map (λ v. value_named (values_view l.inherited) v.0) (values_view (drop l.declaration-index l.declared))
    ≡ map (λ v. value_named (values_view l.inherited) v.0) (values_view l.declared)
