-- Words of the examples.
use Rattle.std.specs.Prelude.{ℕ, ◌*◌, ℤ, pos, neg_ℤ, ◌*ℤ◌, ◌+ℤ◌, if◌then◌else◌, List, [], ◌∷◌, Option, Some, None, Bool, true, false}
use Rattle.value_model.specs.declared.containment.Containment.{Containment}
use Rattle.value_model.specs.declared.keyword.Keyword.{Keyword}
use Rattle.value_model.specs.declared.prop.Prop.{Prop}
use Rattle.value_model.specs.declared.prop.Prop.TheVariants.{Display, BorderTopWidth, BorderRightWidth, BorderBottomWidth, BorderLeftWidth}
use Rattle.value_model.specs.Forms.{nothing_contained}
use Rattle.value_model.specs.Calculations.{in_units, in_percent, leaf}
use Rattle.value_model.specs.Properties.{property, is_same_prop}
use Rattle.value_model.specs.Values.{Final, keyword, length}
use Rattle.flow_model.specs.declared.box_kind.BoxKind.TheVariants.{Block}
use Rattle.flow_model.specs.declared.containing.Containing.{Containing}
use Rattle.flow_model.specs.declared.effects.Effects.{Effects}
use Rattle.flow_model.specs.declared.flow_item.FlowItem.{FlowItem}
use Rattle.flow_model.specs.declared.flow_item.FlowItem.TheVariants.{Run, Child}
use Rattle.flow_model.specs.declared.margins.Margins.{Margins}
use Rattle.flow_model.specs.declared.used.Used.{Used}
use Rattle.flow_model.specs.MarginSets.{alone, empty}
use Rattle.flow_model.specs.declared.row.Beside.{Beside}
use Rattle.flow_model.specs.declared.row.Row.{Row}
use Rattle.flow_model.specs.UsedLengths.{Values}

abbrev pub minus : ℕ → ℤ
minus n = neg_ℤ (pos n)

-- 2^30, the largest length
abbrev pub most : ℤ
most = pos 1073741824

-- ---- computed values

abbrev pub units : ℤ → Final
units n = length (leaf (in_units n))

abbrev pub percent : ℤ → Final
percent n = length (leaf (in_percent (n *ℤ pos 1000000)))

-- no borders, and all else initial
abbrev pub plain : Values
plain BorderTopWidth = units (pos 0)
plain BorderRightWidth = units (pos 0)
plain BorderBottomWidth = units (pos 0)
plain BorderLeftWidth = units (pos 0)
plain p = (property p).initial

-- these values, but for one
abbrev pub but : Prop → Final → Values → Values
but p v values = λ q. if is_same_prop p q then v else values q

abbrev pub kw : Keyword → Final
kw k = keyword k

-- ---- rows

-- edges of 1, 2, 3 and 4, and these margins
abbrev pub beside_margins : (left right : Option ℤ) → Beside
beside_margins left right = record {
  margin_left = left;
  border_left = pos 1;
  padding_left = pos 2;
  padding_right = pos 3;
  border_right = pos 4;
  margin_right = right;
}

-- a row with the same edges
abbrev pub row : (left width right : ℤ) → Row
row left width right = record {
  margin_left = left;
  border_left = pos 1;
  padding_left = pos 2;
  width = width;
  padding_right = pos 3;
  border_right = pos 4;
  margin_right = right;
}

-- a row without edges
abbrev pub plain_row : (left width right : ℤ) → Row
plain_row left width right = record {
  margin_left = left;
  border_left = pos 0;
  padding_left = pos 0;
  width = width;
  padding_right = pos 0;
  border_right = pos 0;
  margin_right = right;
}

-- ---- containing blocks

abbrev pub block_in : ℤ → Containing
block_in w = record { w = w; h = None; inline_block = false }

abbrev pub inline_block_in : ℤ → Containing
inline_block_in w = record { w = w; h = None; inline_block = true }

abbrev pub block_in_both : (w h : ℤ) → Containing
block_in_both w h = record { w = w; h = Some h; inline_block = false }

-- ---- boxes

-- a block without containment
abbrev pub no_effects : Effects
no_effects = record {
  kind = Block;
  independent = false;
  inline_contained = false;
  size_contained = false;
  layout_contained = false;
}

-- a box of which all values are 0, and its height is `auto`
abbrev pub flat : Used
flat = record {
  ml = pos 0;
  bl = pos 0;
  pl = pos 0;
  w = pos 0;
  pr = pos 0;
  br = pos 0;
  mr = pos 0;
  mt = pos 0;
  bt = pos 0;
  pt = pos 0;
  pb = pos 0;
  bb = pos 0;
  mb = pos 0;
  min_h = pos 0;
  h = None;
  max_h = None;
  independent = false;
  size_contained = false;
  layout_contained = false;
  overflow_visible = true;
}

-- ---- items

-- a solid block of this height between its margins
abbrev pub solid : (top height bottom : ℤ) → FlowItem
solid top height bottom = Child 1 height (alone top) (alone bottom) false None

-- an empty block, through which its margins pass
abbrev pub through : (margins : Margins) → FlowItem
through margins = Child 2 (pos 0) margins margins true None

abbrev pub lines : (height : ℤ) → FlowItem
lines height = Run height None
