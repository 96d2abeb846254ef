-- The assignments to a page that are consistent: at each element the equations of its entry hold.
use Rattle.std.specs.Prelude.{◌≡◌, ℕ, Option, Some, None}
use Rattle.page_model.specs.Document.{Node, element, text, Nodes, no_nodes, node, name_at}
use Rattle.page_model.specs.Pages.{Page}
use Rattle.layout_model.specs.Setting.{Setting}
use Rattle.layout_model.specs.Boxes.{Box, Containing, viewport_block, content_block, IsFlatBlock}

-- what an element is given
pub record Entry : Type 0 where
  pub box : Box

-- what each id is given
abbrev pub Assignment : Type 0
Assignment = ℕ → Option Entry

-- the equations hold at an element and below it, inside this containing block
abbrev mutual
  pub Holds : Assignment → Containing → Node → Type 0
  Holds a around (element id name attributes kids) =
      (e : Entry) × (a id ≡ Some e) × IsFlatBlock around e.box × AllHold a (content_block e.box) kids
  Holds a around (text id cs) = Unit {0}

  pub AllHold : Assignment → Containing → Nodes → Type 0
  AllHold a around no_nodes = Unit {0}
  AllHold a around (node n ns) = Holds a around n × AllHold a around ns

-- an id that is not an element's is given nothing
abbrev pub GivesNoOther : Assignment → Node → Type 0
GivesNoOther a root = (i : ℕ) → name_at i root ≡ None → a i ≡ None

-- The equations hold at each element of the document, and no other id is given anything. Nothing has a width of its own
-- yet, so the setting is not looked at.
pub record Consistent (setting : Setting) (page : Page) (a : Assignment) : Type 0 where
  pub holds : Holds a (viewport_block page.viewport) page.document.root
  pub no_other : GivesNoOther a page.document.root
