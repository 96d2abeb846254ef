-- Words of the examples: small documents whose elements have given styles.
use Rattle.std.specs.Prelude.{ℕ, ◌-◌, ◌==◌, ℤ, pos, neg_ℤ, ◌*ℤ◌, if◌then◌else◌, List, [], ◌∷◌, codes, Option, Some, None, option_and_then, option_map, false, true}
use Rattle.page_model.specs.Document.{Node, element, Nodes, no_nodes, node}
use Rattle.page_model.specs.declared.viewport.Viewport.{Viewport}
use Rattle.value_model.specs.declared.keyword.Keyword.TheVariants as keywords
use Rattle.value_model.specs.declared.prop.Prop.{Prop}
use Rattle.value_model.specs.declared.prop.Prop.TheVariants.{Display, Height}
use Rattle.value_model.specs.Calculations.{in_percent, in_units, leaf}
use Rattle.value_model.specs.Values.{Final, keyword, length}
use Rattle.cascade_model.specs.Styling.{Styling}
use Rattle.cascade_model.specs.DocumentStyles.{Page}
use Rattle.cascade_model.specs.inner.Examples.{without_custom, initial_but}
use Rattle.flow_model.specs.declared.box_kind.BoxKind.TheVariants.{Block}
use Rattle.flow_model.specs.inner.Examples.{flat}
use Rattle.flow_model.specs.MarginSets as margin_sets
use Rattle.layout_model.specs.Above.{Cascade, above_root, cascade, viewport_containing}
use Rattle.layout_model.specs.Entries.{Assignment, BoxResults, Entry}
use Rattle.layout_model.specs.Laid.{assignment_of, laid}
use Rattle.layout_model.specs.Positions.{Shape, Shown, shown}

abbrev pub minus : ℕ → ℤ
minus n = neg_ℤ (pos n)

-- ---- styles

abbrev pub units : ℤ → Final
units n = length (leaf (in_units n))

abbrev pub percent : ℕ → Final
percent n = length (leaf (in_percent (pos n *ℤ pos 1000000)))

abbrev pub auto : Final
auto = keyword keywords.Auto

-- these values, and else initial ones, of a block
abbrev pub block : List (Prop × Final) → Styling
block values = without_custom (initial_but ((Display, keyword keywords.Block) ∷ values))

-- a block of this height
abbrev pub high : ℕ → Styling
high n = block ((Height, units (pos n)) ∷ [])

-- of an inline element
abbrev pub inline_with : List (Prop × Final) → Styling
inline_with values = without_custom (initial_but values)

-- of an inline-block
abbrev pub inline_block : List (Prop × Final) → Styling
inline_block values = without_custom (initial_but ((Display, keyword keywords.InlineBlock) ∷ values))

-- of an element without a box
abbrev pub without_box : Styling
without_box = without_custom (initial_but ((Display, keyword keywords.None) ∷ []))

-- the elements have these styles, in the order of their ids
abbrev pub styled_by : List Styling → Cascade
styled_by [] above i = without_custom []
styled_by (style ∷ styles) above i = if i == 0 then style else styled_by styles above (i - 1)

-- ---- documents

abbrev pub p : ℕ → Nodes → Node
p i children = element i (codes "p") [] children

abbrev pub one : Node → Nodes
one n = node n no_nodes

abbrev pub empty : ℕ → Node
empty i = p i no_nodes

-- ---- what is shown of a document in a viewport of 800 by 600 pixels

abbrev pub screen : Viewport
screen = record { width = 800; height = 600 }

abbrev pub laid_by : List Styling → Node → Assignment
laid_by styles root =
    assignment_of (laid (styled_by styles) above_root (viewport_containing screen) root)

abbrev pub shapes : List Shown → List Shape
shapes [] = []
shapes (s ∷ ss) = s.shape ∷ shapes ss

abbrev pub shapes_by : List Styling → Node → List Shape
shapes_by styles root = shapes (shown (laid_by styles root) root)

-- of a page whose elements have the styles of the cascade
abbrev pub shapes_on : Page → List Shape
shapes_on page = shapes (shown (assignment_of (laid (cascade page) above_root (viewport_containing page.viewport) page.root)) page.root)

-- the width of the content box that an id is given
abbrev pub width_at : Assignment → ℕ → Option ℤ
width_at a i = option_and_then (λ e. option_map (λ box. box.used.w) e.box) (a i)

-- ---- a root without contents

abbrev pub root_box : BoxResults
root_box = record {
  inner = (pos 0, pos 0);
  used = record flat { w = pos 51200; independent = true };
  height = pos 0;
  placement = record {
    offsets = [];
    auto_height = pos 0;
    top = margin_sets.empty;
    bottom = margin_sets.empty;
    through = false;
    baseline = None;
  };
}

abbrev pub root_entry : Entry
root_entry = record { style = block []; kind = Block; box = Some root_box }
