-- The values so far are those of the first properties.
use Rattle.std.proofs.Common.{◌≡◌, length, map, take}
use Rattle.prop_table.specs.Styles.{style_view}
use Rattle.cascade_core.specs.Defaults.{default_value}
use Rattle.cascade_core.proofs.defaults.part_of_defaults.Given as goal

abbrev pub invariant-loop-prop : goal.invariant-loop-prop
invariant-loop-prop l = record {
  values : style_view l.part ≡ map (default_value l.display) (take l.prop-index l.props);
  count : length l.part ≡ l.prop-index;
}
