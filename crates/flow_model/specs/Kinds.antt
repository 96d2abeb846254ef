-- What a style makes of an element's box: its kind (CSS 2.1, section 9.2), whether it is independent, that is the root
-- of a block formatting context (section 9.4.1), and its containment (CSS Containment 2, section 3; CSS Containment 3,
-- sections 3.2 and 5.1).
use Rattle.std.specs.Prelude.{Bool, true, false, ◌&&◌, ◌||◌, not}
use Rattle.value_model.specs.declared.containment.Containment.{Containment}
use Rattle.value_model.specs.declared.keyword.Keyword.TheVariants.{Block, FlowRoot, InlineBlock, None as NoneKeyword, InlineSize, Size, Visible}
use Rattle.value_model.specs.declared.prop.Prop.TheVariants.{Display, Overflow, Contain, ContainerType}
use Rattle.value_model.specs.Forms.{nothing_contained}
use Rattle.value_model.specs.Values.{Final, keyword, containment}
use Rattle.flow_model.specs.declared.box_kind.BoxKind.{BoxKind}
use Rattle.flow_model.specs.declared.box_kind.BoxKind.TheVariants as kinds
use Rattle.flow_model.specs.declared.effects.Effects.{Effects}
use Rattle.flow_model.specs.UsedLengths.{Values}

-- ---- kinds

abbrev pub kind_of : Final → BoxKind
kind_of (keyword Block) = kinds.Block
kind_of (keyword FlowRoot) = kinds.Block
kind_of (keyword InlineBlock) = kinds.InlineBlock
kind_of (keyword NoneKeyword) = kinds.NoBox
kind_of display = kinds.Inline

-- a block or inline-block box; containment has no effect on others, and they contain no blocks
abbrev pub is_boxed : BoxKind → Bool
is_boxed kinds.Block = true
is_boxed kinds.InlineBlock = true
is_boxed kinds.Inline = false
is_boxed kinds.NoBox = false

abbrev pub is_inline_block : BoxKind → Bool
is_inline_block kinds.InlineBlock = true
is_inline_block kind = false

abbrev pub is_flow_root : Final → Bool
is_flow_root (keyword FlowRoot) = true
is_flow_root display = false

abbrev pub is_visible : Final → Bool
is_visible (keyword Visible) = true
is_visible overflow = false

-- ---- containment

abbrev pub contained_by : Final → Containment
contained_by (containment c) = c
contained_by v = nothing_contained

-- `container-type`: a query container for one axis or for both
abbrev pub is_inline_size : Final → Bool
is_inline_size (keyword InlineSize) = true
is_inline_size container_type = false

abbrev pub is_size : Final → Bool
is_size (keyword Size) = true
is_size container_type = false

abbrev pub has_inline_size_containment : Values → Bool
has_inline_size_containment values =
    (contained_by (values Contain)).inline_size || is_inline_size (values ContainerType)

abbrev pub has_size_containment : Values → Bool
has_size_containment values = (contained_by (values Contain)).size || is_size (values ContainerType)

-- a query container of either kind has layout containment
abbrev pub has_layout_containment : Values → Bool
has_layout_containment values =
    (contained_by (values Contain)).layout
    || (is_inline_size (values ContainerType) || is_size (values ContainerType))

-- ---- all of it

-- the box of an element is independent, if it is boxed
abbrev pub is_independent : Values → (is_root : Bool) → Bool
is_independent values is_root =
    is_root || (is_inline_block (kind_of (values Display)) || (is_flow_root (values Display)
    || (not (is_visible (values Overflow)) || (has_layout_containment values
    || (contained_by (values Contain)).paint))))

abbrev pub effects : Values → (is_root : Bool) → Effects
effects values is_root = record {
  kind = kind_of (values Display);
  independent = is_boxed (kind_of (values Display)) && is_independent values is_root;
  inline_contained = is_boxed (kind_of (values Display)) && has_inline_size_containment values;
  size_contained = is_boxed (kind_of (values Display)) && has_size_containment values;
  layout_contained = is_boxed (kind_of (values Display)) && has_layout_containment values;
}
