use Rattle.layout_laws.proofs.ShownPages.{shown-same}
use Rattle.layout_laws.proofs.shown_pages.are_unique.Goals as goal

pub returns : goal.returns
returns c = shown-same
