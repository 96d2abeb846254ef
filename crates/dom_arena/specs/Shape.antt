-- The plain tree that a `Tree` is.
use Rattle.page_model.specs.Trees as model
use Rattle.dom_arena.specs.declared.tree.Tree.{Tree, fold-Tree}
use Rattle.dom_arena.specs.declared.tree.Tree.TheOpen.{Tree-F}

-- one level, with each child already seen as its plain tree
abbrev pub shape_step : Tree-F model.Tree → model.Tree
shape_step (Tree-F.Elem name attributes children) = model.elem name attributes (model.trees_of children)
shape_step (Tree-F.Chars text) = model.characters text

abbrev pub shape : Tree → model.Tree
shape = fold-Tree model.Tree shape_step
