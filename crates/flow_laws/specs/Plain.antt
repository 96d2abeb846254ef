-- Items without negative margins.
use Rattle.std.specs.Prelude.{◌≡◌, ◌≤ℤ◌, ℤ, pos, true, Bool}
use Rattle.flow_model.specs.declared.flow_item.FlowItem.{FlowItem}
use Rattle.flow_model.specs.declared.margins.Margins.{Margins}
use Rattle.flow_model.specs.Collapsing.{is_through, item_height, top_of, bottom_of}

-- no margin of the set is negative
pub record IsNotNegative (m : Margins) : Type 0 where
  pub positive : pos 0 ≤ℤ m.positive
  pub negative : m.negative ≡ pos 0

-- no margin of the item is negative, nor its height, and where margins pass through it those at its top are among those
-- at its bottom
pub record IsPlain (item : FlowItem) : Type 0 where
  pub height : pos 0 ≤ℤ item_height item
  pub top : IsNotNegative (top_of item)
  pub bottom : IsNotNegative (bottom_of item)
  pub all : is_through item ≡ true → (top_of item).positive ≤ℤ (bottom_of item).positive
