use Rattle.selectors.proofs.ListDrafts.{white-taken}
use Rattle.selectors.proofs.reading.lists.ListDraft.take_white.Goals as goal

pub returns : goal.returns
returns c = white-taken c.args.self.now c.after_white-self.result c.after_white-self.ensures
