use Rattle.layout_laws.proofs.ShownPages.{page-shown}
use Rattle.layout_laws.proofs.shown_pages.show_each_element.Goals as goal

pub returns : goal.returns
returns c = page-shown
