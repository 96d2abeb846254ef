-- How trees are read from an array's items, one after another.
use Rattle.std.proofs.Common.{◌≡◌, ℕ, ◌+◌, ◌<◌, suc, List, [], ◌∷◌, ◌++◌, length, get_or, drop, map, Option, Some, None, option_map, refl, ap, add-one, drop-cons}
use Rattle.std.proofs.lemmas.List.{map-append}
use Rattle.serde_json.specs.Data.{Data, Items, item}
use Rattle.serde_json.specs.View.{view, items_view}
use Rattle.serde_json.specs.declared.value.Value.{Value}
use Rattle.dom_arena.specs.declared.tree.Tree.{Tree}
use Rattle.dom_arena.specs.Shape.{shape}
use Rattle.page_model.specs.Trees as model
use Rattle.page_model.specs.Trees.{Trees, no_trees, tree}
use Rattle.page_model.specs.Jsonml.{tree_of, trees_of_items}

-- trees in front of others
abbrev pub in_front : List model.Tree → Trees → Trees
in_front [] ts = ts
in_front (b ∷ before) ts = tree b (in_front before ts)

-- trees that were read, and then the ones that are read from what is left
abbrev pub trees_then : List model.Tree → Option Trees → Option Trees
trees_then before read = option_map (in_front before) read

in_front-more : (before : List model.Tree) (t : model.Tree) (ts : Trees) → in_front before (tree t ts) ≡ in_front (before ++ t ∷ []) ts
in_front-more [] t ts = refl
in_front-more (b ∷ before) t ts = ap (tree b) (in_front-more before t ts)

in_front-all : (before : List model.Tree) → in_front before no_trees ≡ model.trees_of before
in_front-all [] = refl
in_front-all (b ∷ before) = ap (tree b) (in_front-all before)

trees_then-more : (before : List model.Tree) (t : model.Tree) (read : Option Trees)
    → trees_then before (option_map (tree t) read) ≡ trees_then (before ++ t ∷ []) read
trees_then-more before t None = refl
trees_then-more before t (Some ts) = ap Some (in_front-more before t ts)

trees_then-item : (before : List model.Tree) (t : model.Tree) (d : Data) (ds : Items) → tree_of d ≡ Some t
    → trees_then before (trees_of_items (item d ds)) ≡ trees_then (before ++ t ∷ []) (trees_of_items ds)
trees_then-item before t d ds e = rw e (trees_then-more before t (trees_of_items ds))

-- one more child was read
pub trees_then-step : (trees : List Tree) (t : Tree) (items : List Value) (i : ℕ) (v : Value) → i < length items → v ≡ get_or items i v → tree_of (view v) ≡ Some (shape t)
    → trees_then (map shape trees) (trees_of_items (items_view (drop i items))) ≡ trees_then (map shape (trees ++ t ∷ [])) (trees_of_items (items_view (drop (i + 1) items)))
trees_then-step trees t items i v h is read =
    rw (drop-cons items i v, ← is, add-one, map-append) (trees_then-item (map shape trees) (shape t) (view v) (items_view (drop (suc i) items)) read)

-- no item is left
pub trees_then-end : (trees : List Tree) (items : List Value) → items ≡ [] → trees_then (map shape trees) (trees_of_items (items_view items)) ≡ Some (model.trees_of (map shape trees))
trees_then-end trees items none = rw none (ap Some (in_front-all (map shape trees)))
