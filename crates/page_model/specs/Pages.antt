-- What is loaded.
use Rattle.std.specs.Prelude.{List, Option}
use Rattle.page_model.specs.Trees.{Text}
use Rattle.page_model.specs.Document.{Document}
use Rattle.page_model.specs.declared.viewport.Viewport.{Viewport}

-- a document, the texts of its style sheets, and the viewport
pub record Page : Type 0 where
  pub document : Document
  pub sheets : List Text
  pub viewport : Viewport

-- nothing is loaded, or a page
abbrev pub State : Type 0
State = Option Page
