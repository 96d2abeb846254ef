-- The outer pairs of contents do not depend on what the contents are laid into.
use Rattle.std.proofs.Common.{List, None, Some, cond, refl, ℕ, ◌++◌, ◌∙◌, ◌≡◌}
use Rattle.std.proofs.lemmas.List.{map-append}
use Rattle.std.specs.Prelude.{[], ◌∷◌, ℤ}
use Rattle.cascade_model.specs.Styling.{Styling}
use Rattle.flow_model.specs.declared.box_kind.BoxKind.{BoxKind}
use Rattle.flow_model.specs.declared.box_kind.BoxKind.TheVariants.{Block, Inline, InlineBlock, NoBox}
use Rattle.flow_model.specs.declared.containing.Containing.{Containing}
use Rattle.flow_model.specs.declared.flow_item.FlowItem.{FlowItem}
use Rattle.flow_model.specs.declared.used.Used.{Used}
use Rattle.flow_model.specs.Kinds.{is_boxed}
use Rattle.flow_model.specs.PreferredWidths.{outer_pair}
use Rattle.layout_model.specs.Above.{Above, Cascade, kind_below, values_of}
use Rattle.layout_model.specs.Contents.{BlockBox, block_box, in_flow, items_of, outer_pair_of, outer_pairs_of}
use Rattle.layout_model.specs.Laid.{below_element, boxes_from, boxes_given, boxes_of, containing_below, inner_of, pairs_from, pairs_given, pairs_of, results_of, used_of}
use Rattle.page_model.specs.Document.{Node, Nodes, element, no_nodes, node, text}

flow-pairs : (k : BoxKind) (i : ℕ) (style : Styling) (inner : ℤ × ℤ) (used : Used) (items : List FlowItem) (contents : List BlockBox) (pairs : List (ℤ × ℤ))
    → outer_pairs_of contents ≡ pairs
    → outer_pairs_of (in_flow k (block_box i style (cond (is_boxed k) (Some (results_of inner used items)) None)) contents) ≡ in_flow k (outer_pair (values_of style) inner ∷ []) pairs
flow-pairs Block i style inner used items contents pairs e = refl
flow-pairs Inline i style inner used items contents pairs e = e
flow-pairs InlineBlock i style inner used items contents pairs e = refl
flow-pairs NoBox i style inner used items contents pairs e = refl

given-pairs : (above : Above) (around : Containing) (i : ℕ) (style : Styling) (contents : List BlockBox) (pairs : List (ℤ × ℤ)) → outer_pairs_of contents ≡ pairs
    → outer_pairs_of (boxes_given above around i style pairs contents) ≡ pairs_given above style pairs
given-pairs above around i style contents pairs e =
    flow-pairs (kind_below above style) i style (inner_of above style pairs) (used_of above around style pairs) (items_of contents) contents pairs e

mutual
  pub boxes_from-pairs : (styling : Cascade) (above : Above) (around : Containing) (n : Node) → outer_pairs_of (boxes_from styling above around n) ≡ pairs_from styling above n
  boxes_from-pairs styling above around (element id name attributes children) =
      given-pairs above around id (styling above id)
      (boxes_of styling (below_element styling above id) (containing_below styling above around id children) children)
      (pairs_of styling (below_element styling above id) children)
      (boxes_of-pairs styling (below_element styling above id) (containing_below styling above around id children) children)
  boxes_from-pairs styling above around (text id cs) = refl

  pub boxes_of-pairs : (styling : Cascade) (above : Above) (around : Containing) (ns : Nodes) → outer_pairs_of (boxes_of styling above around ns) ≡ pairs_of styling above ns
  boxes_of-pairs styling above around no_nodes = refl
  boxes_of-pairs styling above around (node n ns) =
      let first : outer_pairs_of (boxes_from styling above around n) ≡ pairs_from styling above n = boxes_from-pairs styling above around n in
      let rest : outer_pairs_of (boxes_of styling above around ns) ≡ pairs_of styling above ns = boxes_of-pairs styling above around ns in
      map-append outer_pair_of (boxes_from styling above around n) (boxes_of styling above around ns) ∙ (λ j. first j ++ rest j)
