-- The values so far are those of the first properties.
use Rattle.std.proofs.Common.{◌≡◌, map, take}
use Rattle.cascade_model.specs.StyleEquation.{final_value}
use Rattle.prop_table.specs.Styles.{style_view}
use Rattle.cascade_core.specs.Givens.{given_view}
use Rattle.cascade_core.proofs.parts.has_values.Given as goal

abbrev pub invariant-loop-i : goal.invariant-loop-i
invariant-loop-i l =
    style_view (take l.i l.part) ≡ map (final_value (given_view l.g)) (take l.i l.props)
