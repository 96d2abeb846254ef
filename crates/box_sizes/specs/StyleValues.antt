-- The computed values of a style, by property.
use Rattle.std.specs.Prelude.{List, get_or}
use Rattle.value_model.specs.Properties.{property, prop_place}
use Rattle.flow_model.specs.UsedLengths.{Values}
use Rattle.prop_table.specs.declared.final_value.Final.{Final}
use Rattle.prop_table.specs.Styles.{style_view}

-- what a style says of each property
abbrev pub values_of : List Final → Values
values_of style p = get_or (style_view style) (prop_place p) (property p).initial
