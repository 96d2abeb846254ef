-- None so far is of the property.
use Rattle.std.proofs.Common.{◌≡◌, drop}
use Rattle.std.specs.Map.{lookup}
use Rattle.prop_table.specs.Views.{pairs_view}
use Rattle.value_model.specs.Properties.{is_same_prop}
use Rattle.cascade_core.proofs.made.value_among.Given as goal

abbrev pub invariant-loop-longhand : goal.invariant-loop-longhand
invariant-loop-longhand l =
    lookup (is_same_prop l.prop) (pairs_view l.fn.longhands)
    ≡ lookup (is_same_prop l.prop) (pairs_view (drop l.longhand-index l.longhands))
