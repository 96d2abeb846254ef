-- The parts of a style, each of which may be shared with other styles.
use Rattle.std.specs.Prelude.{◌≡◌, List, length, take, drop, map}
use Rattle.value_model.specs.Values as values
use Rattle.prop_table.specs.declared.final_value.Final.{Final}
use Rattle.prop_table.specs.Views.{final_view}

-- sizes, margins and paddings: the first properties
abbrev pub boxes_of : List Final → List Final
boxes_of style = take 15 style

-- the borders: those after them
abbrev pub borders_of : List Final → List Final
borders_of style = take 12 (drop 15 style)

-- the rest
abbrev pub rest_of : List Final → List Final
rest_of style = drop 27 style

-- so long are the three parts
pub record AreParts (boxes borders rest : List Final) : Type 0 where
  pub boxes_length : length boxes ≡ 15
  pub borders_length : length borders ≡ 12
  pub rest_length : length rest ≡ 18

-- the computed values of all properties, in their order
abbrev pub style_view : List Final → List values.Final
style_view style = map final_view style
