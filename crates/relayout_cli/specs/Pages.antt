-- What the program keeps of a page stands for a page of the definitions.
use Rattle.std.specs.Prelude.{◌≡◌, Option, option_map}
use Rattle.page_model.specs.Pages as model
use Rattle.reply_model.specs.Replies.{Course}
use Rattle.relayout_cli.specs.Sheets.{texts_of}
use Rattle.relayout_cli.specs.declared.page.Page.{Page}

abbrev pub page_view : Page → model.Page
page_view p = record {
  document = p.document.document;
  sheets = texts_of p.sheets;
  viewport = p.viewport;
}

abbrev pub state_view : Option Page → model.State
state_view page = option_map page_view page

-- what is kept stands for this place of a script
abbrev pub IsAt : Option Page → Course → Type 0
IsAt page course = course.state ≡ state_view page
