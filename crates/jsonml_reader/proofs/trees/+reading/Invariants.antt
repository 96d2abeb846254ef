-- What was read so far, and then what is left, is what all the items stand for.
use Rattle.std.proofs.Common.{◌≡◌, drop, map}
use Rattle.serde_json.specs.View.{items_view}
use Rattle.dom_arena.specs.Shape.{shape}
use Rattle.page_model.specs.Jsonml.{trees_of_items}
use Rattle.jsonml_reader.proofs.TreesOfItems.{trees_then}
use Rattle.jsonml_reader.proofs.trees.+reading.Given as goal

abbrev pub invariant-children_from-loop-i : goal.invariant-children_from-loop-i
invariant-children_from-loop-i l = trees_then (map shape l.trees) (trees_of_items (items_view (drop l.i l.items))) ≡ trees_of_items (items_view (drop l.start l.items))
