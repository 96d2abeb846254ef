-- How much room the items of a box take.
use Rattle.std.specs.Prelude.{ℤ, pos, ◌+ℤ◌, List, [], ◌∷◌}
use Rattle.flow_model.specs.declared.flow_item.FlowItem.{FlowItem}
use Rattle.flow_model.specs.Collapsing.{item_height}

-- all heights, and 2^31 units more for each item
abbrev pub room : List FlowItem → ℤ
room [] = pos 0
room (item ∷ items) = item_height item +ℤ pos 2147483648 +ℤ room items

-- the most that offsets can be, 2^56 units
abbrev pub most_room : ℤ
most_room = pos 72057594037927936
