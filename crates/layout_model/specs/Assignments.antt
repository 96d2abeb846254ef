-- The assignments to a page that are consistent: the equations hold at each element.
use Rattle.std.specs.Prelude.{◌≡◌, ℕ, Some, None}
use Rattle.page_model.specs.Document.{Node, element, text, Nodes, no_nodes, node, name_at}
use Rattle.page_model.specs.Pages.{Page}
use Rattle.cascade_model.specs.Books.{book_of_texts}
use Rattle.cascade_model.specs.DocumentStyles as styles
use Rattle.flow_model.specs.declared.containing.Containing.{Containing}
use Rattle.layout_model.specs.Above.{Above, Cascade, above_children, above_root, cascade, containing_children, viewport_containing}
use Rattle.layout_model.specs.Contents.{contents_of}
use Rattle.layout_model.specs.Entries.{Assignment, Entry}
use Rattle.layout_model.specs.Equations.{IsEntry}
use Rattle.layout_model.specs.Setting.{Setting}

-- ---- at each element

-- the equations hold at an element below these, in this containing block, and below it
abbrev mutual
  pub Holds : Cascade → Assignment → Above → Containing → Node → Type 0
  Holds styling a above around (element id name attributes children) =
      (e : Entry) × (a id ≡ Some e) × IsEntry above around (styling above id) (contents_of a children) e
      × AllHold styling a (above_children above e.style e.kind) (containing_children around e.box) children
  Holds styling a above around (text id cs) = Unit {0}

  pub AllHold : Cascade → Assignment → Above → Containing → Nodes → Type 0
  AllHold styling a above around no_nodes = Unit {0}
  AllHold styling a above around (node n ns) = Holds styling a above around n × AllHold styling a above around ns

-- ---- of a page

-- what styles are made from: the rules of the user agent and of the sheets, the viewport, the document
abbrev pub styled_page : Page → styles.Page
styled_page page = record {
  book = book_of_texts page.sheets;
  viewport = page.viewport;
  root = page.document.root;
}

abbrev pub styling_of : Page → Cascade
styling_of page = cascade (styled_page page)

-- an id that is not an element's is given nothing
abbrev pub GivesNoOther : Assignment → Node → Type 0
GivesNoOther a root = (i : ℕ) → name_at i root ≡ None → a i ≡ None

-- The equations hold at each element of the document, and no other id is given anything. The setting is not looked at, as
-- no text has a width yet.
pub record IsConsistent (setting : Setting) (page : Page) (a : Assignment) : Type 0 where
  pub holds : Holds (styling_of page) a above_root (viewport_containing page.viewport) page.document.root
  pub no_other : GivesNoOther a page.document.root
