-- Those so far were made for the first properties.
use Rattle.std.proofs.Common.{◌≡◌, map, take}
use Rattle.std.specs.Prelude.{option_map}
use Rattle.custom_model.specs.NamedValues.{value_named}
use Rattle.custom_props.specs.EnvView.{env_view}
use Rattle.prop_table.specs.Views.{value_view}
use Rattle.cascade_core.specs.Tables.{entry}
use Rattle.cascade_core.specs.inner.Mades.{winner_after}
use Rattle.cascade_core.proofs.made.made_of.Given as goal

abbrev pub invariant-loop-prop : goal.invariant-loop-prop
invariant-loop-prop l =
    map (option_map value_view) l.made
    ≡ map (λ p. winner_after (value_named (env_view l.env)) p (entry l.table p)) (take l.prop-index l.prop-items)
