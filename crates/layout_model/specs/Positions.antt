-- Where boxes stand from the viewport's corner, and what a dump shows of each element.
use Rattle.std.specs.Prelude.{ℕ, ◌==◌, ℤ, pos, ◌+ℤ◌, if◌then◌else◌, List, [], ◌∷◌, ◌++◌, map, Option, Some, None}
use Rattle.page_model.specs.Trees.{Text}
use Rattle.page_model.specs.Document.{Node, element, text, Nodes, no_nodes, node}
use Rattle.flow_model.specs.declared.box_kind.BoxKind.{BoxKind}
use Rattle.flow_model.specs.declared.box_kind.BoxKind.TheVariants.{Inline}
use Rattle.flow_model.specs.Heights.{border_box_height, border_box_width}
use Rattle.layout_model.specs.Contents.{BlockBox, contents_from, contents_of}
use Rattle.layout_model.specs.Entries.{Assignment, BoxResults, Entry}

-- ---- positions

-- What a box stands in: the left and the top content edge of its container from the viewport's corner, and the contents
-- of the container with their offsets from that top edge.
pub record Place : Type 0 where
  pub x : ℤ
  pub y : ℤ
  pub contents : List BlockBox
  pub offsets : List ℤ

-- the offset of a box by its place in the contents; what is not among them has none
abbrev pub offset_of : ℕ → List BlockBox → List ℤ → ℤ
offset_of i [] offsets = pos 0
offset_of i (b ∷ contents) [] = pos 0
offset_of i (b ∷ contents) (offset ∷ offsets) = if i == b.id then offset else offset_of i contents offsets

-- the left and the top edge of the border box (CSS 2.1, sections 8.1 and 9.4.1)
abbrev pub border_x : Place → BoxResults → ℤ
border_x place box = place.x +ℤ box.used.ml

abbrev pub border_y : Place → ℕ → ℤ
border_y place i = place.y +ℤ offset_of i place.contents place.offsets

-- what the children of an element stand in: its content box, or what it stands in itself where it has none
abbrev pub place_of_children : Place → ℕ → List BlockBox → Option BoxResults → Place
place_of_children place i contents None = place
place_of_children place i contents (Some box) = record {
  x = border_x place box +ℤ box.used.bl +ℤ box.used.pl;
  y = border_y place i +ℤ box.used.bt +ℤ box.used.pt;
  contents = contents;
  offsets = box.placement.offsets;
}

-- the root stands at its left and its top margin from the viewport's corner
abbrev pub place_of_root : Assignment → Node → Place
place_of_root a root = record {
  x = pos 0;
  y = pos 0;
  contents = contents_from a root;
  offsets = map (λ b. b.box.used.mt) (contents_from a root);
}

-- ---- what is shown

-- a box: the left and the top edge, the width and the height of its border box, and the size of its content box; or an
-- element without such a box
pub data Shape : Type 0 where
  boxed : (x y width height content_width content_height : ℤ) → Shape
  inline : Shape
  none : Shape

-- what a dump shows of an element
pub record Shown : Type 0 where
  pub id : ℕ
  pub name : Text
  pub shape : Shape

abbrev pub shape_of_box : Place → ℕ → BoxResults → Shape
shape_of_box place i box = boxed (border_x place box) (border_y place i)
    (border_box_width box.used) (border_box_height box.used box.height) box.used.w box.height

abbrev pub shape_without_box : BoxKind → Shape
shape_without_box Inline = inline
shape_without_box kind = none

abbrev pub shape_of : Place → ℕ → BoxKind → Option BoxResults → Shape
shape_of place i kind None = shape_without_box kind
shape_of place i kind (Some box) = shape_of_box place i box

-- an element that is given nothing is not shown
abbrev pub shown_element : Place → ℕ → Text → Option Entry → List Shown
shown_element place i name None = []
shown_element place i name (Some e) =
    record { id = i; name = name; shape = shape_of place i e.kind e.box } ∷ []

-- what the children of an element with this entry stand in
abbrev pub place_below : Place → ℕ → List BlockBox → Option Entry → Place
place_below place i contents None = place
place_below place i contents (Some e) = place_of_children place i contents e.box

-- of the elements of a tree, in document order
abbrev mutual
  pub shown_in : Assignment → Place → Node → List Shown
  shown_in a place (element id name attributes children) =
      shown_element place id name (a id)
      ++ all_shown a (place_below place id (contents_of a children) (a id)) children
  shown_in a place (text id cs) = []

  pub all_shown : Assignment → Place → Nodes → List Shown
  all_shown a place no_nodes = []
  all_shown a place (node n ns) = shown_in a place n ++ all_shown a place ns

-- of a document
abbrev pub shown : Assignment → Node → List Shown
shown a root = shown_in a (place_of_root a root) root
