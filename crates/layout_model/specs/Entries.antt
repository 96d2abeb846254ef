-- What the elements of a page are given: a style, a kind of box, and the results of layout. Lengths are integers in
-- units; a unit is 1/64 of a pixel.
use Rattle.std.specs.Prelude.{ℕ, ℤ, Option}
use Rattle.cascade_model.specs.Styling.{Styling}
use Rattle.flow_model.specs.declared.box_kind.BoxKind.{BoxKind}
use Rattle.flow_model.specs.declared.used.Used.{Used}
use Rattle.flow_model.specs.Offsets.{Placement}

-- what layout finds for a box: its minimum and preferred width as its contents make them (CSS 2.1, section 10.3.5), its
-- used values, the height of its content box, and where its items stand
pub record BoxResults : Type 0 where
  pub inner : ℤ × ℤ
  pub used : Used
  pub height : ℤ
  pub placement : Placement

-- what an element is given; its style comes with its environment
pub record Entry : Type 0 where
  pub style : Styling
  pub kind : BoxKind
  pub box : Option BoxResults

-- what each id is given
abbrev pub Assignment : Type 0
Assignment = ℕ → Option Entry
