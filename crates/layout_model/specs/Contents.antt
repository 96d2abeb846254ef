-- The contents of a box: the block boxes that are laid into it, in order (CSS 2.1, section 9.2.1). An inline element is
-- replaced by its own contents, and an element without a box gives nothing. Texts and inline-blocks, which are laid into
-- lines, give nothing yet.
use Rattle.std.specs.Prelude.{ℕ, ℤ, List, [], ◌∷◌, ◌++◌, map, Option, Some, None}
use Rattle.page_model.specs.Document.{Node, element, text, Nodes, no_nodes, node}
use Rattle.cascade_model.specs.Styling.{Styling}
use Rattle.flow_model.specs.declared.box_kind.BoxKind.{BoxKind}
use Rattle.flow_model.specs.declared.box_kind.BoxKind.TheVariants.{Block, InlineBlock, Inline, NoBox}
use Rattle.flow_model.specs.declared.flow_item.FlowItem.{FlowItem}
use Rattle.flow_model.specs.declared.flow_item.FlowItem.TheVariants.{Child}
use Rattle.flow_model.specs.Heights.{border_box_height}
use Rattle.flow_model.specs.PreferredWidths.{outer_pair}
use Rattle.layout_model.specs.Above.{values_of}
use Rattle.layout_model.specs.Entries.{Assignment, BoxResults, Entry}

-- a block box among the contents of another
pub record BlockBox : Type 0 where
  pub id : ℕ
  pub style : Styling
  pub box : BoxResults

-- ---- what its container asks of it

abbrev pub outer_pair_of : BlockBox → ℤ × ℤ
outer_pair_of b = outer_pair (values_of b.style) b.box.inner

-- its height is that of its border box
abbrev pub item_of : BlockBox → FlowItem
item_of b = Child b.id (border_box_height b.box.used b.box.height)
    b.box.placement.top b.box.placement.bottom b.box.placement.through b.box.placement.baseline

abbrev pub outer_pairs_of : List BlockBox → List (ℤ × ℤ)
outer_pairs_of blocks = map outer_pair_of blocks

abbrev pub items_of : List BlockBox → List FlowItem
items_of blocks = map item_of blocks

-- ---- which boxes are the contents

-- what an element of this kind gives: a block itself, an inline element what it contains
abbrev pub in_flow : {X : Type 0} → BoxKind → (itself contents : List X) → List X
in_flow Block itself contents = itself
in_flow Inline itself contents = contents
in_flow InlineBlock itself contents = []
in_flow NoBox itself contents = []

-- the box of an element, which may have none
abbrev pub block_box : ℕ → Styling → Option BoxResults → List BlockBox
block_box i style None = []
block_box i style (Some box) = record { id = i; style = style; box = box } ∷ []

-- what an element with this entry and these contents gives
abbrev pub given_by : ℕ → Option Entry → List BlockBox → List BlockBox
given_by i None contents = []
given_by i (Some e) contents = in_flow e.kind (block_box i e.style e.box) contents

-- what a node gives, and the contents of an element with these children
abbrev mutual
  pub contents_from : Assignment → Node → List BlockBox
  contents_from a (element id name attributes children) = given_by id (a id) (contents_of a children)
  contents_from a (text id cs) = []

  pub contents_of : Assignment → Nodes → List BlockBox
  contents_of a no_nodes = []
  contents_of a (node n ns) = contents_from a n ++ contents_of a ns
