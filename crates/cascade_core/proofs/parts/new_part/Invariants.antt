-- The values so far are those of the first properties.
use Rattle.std.proofs.Common.{◌≡◌, length, map, take}
use Rattle.cascade_model.specs.StyleEquation.{final_value}
use Rattle.prop_table.specs.Styles.{style_view}
use Rattle.cascade_core.specs.Givens.{given_view}
use Rattle.cascade_core.proofs.parts.new_part.Given as goal

abbrev pub invariant-loop-prop : goal.invariant-loop-prop
invariant-loop-prop l = record {
  values : style_view l.part ≡ map (final_value (given_view l.g)) (take l.prop-index l.props);
  count : length l.part ≡ l.prop-index;
}
