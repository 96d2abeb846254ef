-- The consistent assignment as it is found: styles downwards, preferred widths upwards, sizes downwards, and heights
-- upwards. Each of these is a recursion over the tree.
use Rattle.std.specs.Prelude.{◌≡◌, ℕ, ◌==◌, ℤ, if◌then◌else◌, List, [], ◌∷◌, ◌++◌, Some, None}
use Rattle.page_model.specs.Document.{Node, element, text, Nodes, no_nodes, node}
use Rattle.page_model.specs.Pages.{Page}
use Rattle.cascade_model.specs.Styling.{Styling}
use Rattle.flow_model.specs.declared.containing.Containing.{Containing}
use Rattle.flow_model.specs.declared.flow_item.FlowItem.{FlowItem}
use Rattle.flow_model.specs.declared.used.Used.{Used}
use Rattle.flow_model.specs.Heights.{height_of, used_values}
use Rattle.flow_model.specs.Kinds.{is_boxed}
use Rattle.flow_model.specs.Offsets.{placement}
use Rattle.flow_model.specs.PreferredWidths.{inner_pair, outer_pair, pair_of_contents}
use Rattle.layout_model.specs.Above.{Above, Cascade, above_children, above_root, content_box, effects_below, kind_below, laid_as, values_of, viewport_containing}
use Rattle.layout_model.specs.Assignments.{styling_of}
use Rattle.layout_model.specs.Contents.{BlockBox, given_by, in_flow, items_of}
use Rattle.layout_model.specs.Entries.{Assignment, BoxResults, Entry}

-- ---- an element

-- what is above the children of an element
abbrev pub below_element : Cascade → Above → ℕ → Above
below_element styling above i =
    above_children above (styling above i) (kind_below above (styling above i))

-- the preferred widths of an element's box, the contents of which have these outer pairs
abbrev pub inner_of : Above → Styling → List (ℤ × ℤ) → ℤ × ℤ
inner_of above style pairs = inner_pair (effects_below above style) (pair_of_contents pairs)

-- its used values
abbrev pub used_of : Above → Containing → Styling → List (ℤ × ℤ) → Used
used_of above around style pairs =
    used_values (laid_as (kind_below above style) around) (effects_below above style) (inner_of above style pairs) (values_of style)

-- the containing block of its children
abbrev pub containing_of : Above → Containing → Styling → List (ℤ × ℤ) → Containing
containing_of above around style pairs =
    if is_boxed (kind_below above style) then content_box (used_of above around style pairs) else around

-- the results of a box with these preferred widths, used values and items
abbrev pub results_of : ℤ × ℤ → Used → List FlowItem → BoxResults
results_of inner used items = record {
  inner = inner;
  used = used;
  height = height_of used (placement used items).auto_height;
  placement = placement used items;
}

-- what an element is given, the contents of which are these, with these outer pairs
abbrev pub entry_of : Above → Containing → Styling → List (ℤ × ℤ) → List BlockBox → Entry
entry_of above around style pairs contents = record {
  style = style;
  kind = kind_below above style;
  box = if is_boxed (kind_below above style)
      then Some (results_of (inner_of above style pairs) (used_of above around style pairs) (items_of contents))
      else None;
}

-- ---- upwards: preferred widths

-- the outer pairs that an element gives to the box around it, its contents having these
abbrev pub pairs_given : Above → Styling → List (ℤ × ℤ) → List (ℤ × ℤ)
pairs_given above style pairs =
    in_flow (kind_below above style) (outer_pair (values_of style) (inner_of above style pairs) ∷ []) pairs

abbrev mutual
  pub pairs_from : Cascade → Above → Node → List (ℤ × ℤ)
  pairs_from styling above (element id name attributes children) =
      pairs_given above (styling above id) (pairs_of styling (below_element styling above id) children)
  pairs_from styling above (text id cs) = []

  pub pairs_of : Cascade → Above → Nodes → List (ℤ × ℤ)
  pairs_of styling above no_nodes = []
  pairs_of styling above (node n ns) = pairs_from styling above n ++ pairs_of styling above ns

-- ---- downwards: containing blocks

-- the containing block of the children of an element
abbrev pub containing_below : Cascade → Above → Containing → ℕ → Nodes → Containing
containing_below styling above around i children =
    containing_of above around (styling above i) (pairs_of styling (below_element styling above i) children)

-- ---- upwards: contents with all of their results

-- what an element gives to the box around it, its contents being these, with these outer pairs
abbrev pub boxes_given : Above → Containing → ℕ → Styling → List (ℤ × ℤ) → List BlockBox → List BlockBox
boxes_given above around i style pairs contents =
    given_by i (Some (entry_of above around style pairs contents)) contents

abbrev mutual
  pub boxes_from : Cascade → Above → Containing → Node → List BlockBox
  boxes_from styling above around (element id name attributes children) =
      boxes_given above around id (styling above id) (pairs_of styling (below_element styling above id) children)
      (boxes_of styling (below_element styling above id) (containing_below styling above around id children) children)
  boxes_from styling above around (text id cs) = []

  pub boxes_of : Cascade → Above → Containing → Nodes → List BlockBox
  boxes_of styling above around no_nodes = []
  boxes_of styling above around (node n ns) = boxes_from styling above around n ++ boxes_of styling above around ns

-- ---- all of it

-- what an element is given
abbrev pub laid_entry : Cascade → Above → Containing → ℕ → Nodes → Entry
laid_entry styling above around i children =
    entry_of above around (styling above i) (pairs_of styling (below_element styling above i) children)
    (boxes_of styling (below_element styling above i) (containing_below styling above around i children) children)

-- the ids of the elements with what they are given, in document order
abbrev mutual
  pub laid : Cascade → Above → Containing → Node → List (ℕ × Entry)
  laid styling above around (element id name attributes children) =
      (id, laid_entry styling above around id children)
      ∷ all_laid styling (below_element styling above id) (containing_below styling above around id children) children
  laid styling above around (text id cs) = []

  pub all_laid : Cascade → Above → Containing → Nodes → List (ℕ × Entry)
  all_laid styling above around no_nodes = []
  all_laid styling above around (node n ns) = laid styling above around n ++ all_laid styling above around ns

-- of a page
abbrev pub laid_page : Page → List (ℕ × Entry)
laid_page page =
    laid (styling_of page) above_root (viewport_containing page.viewport) page.document.root

-- the assignment says what the list does
abbrev pub Says : Assignment → List (ℕ × Entry) → Type 0
Says a [] = Unit {0}
Says a (e ∷ es) = (a e.0 ≡ Some e.1) × Says a es

-- the assignment that a list is: an id is given what first stands with it
abbrev pub assignment_of : List (ℕ × Entry) → Assignment
assignment_of [] i = None
assignment_of (e ∷ es) i = if i == e.0 then Some e.1 else assignment_of es i
