use Rattle.selectors.specs.inner.Drafts.{EndsMember}
use Rattle.selectors.proofs.ListDrafts.{comma-taken}
use Rattle.selectors.proofs.reading.lists.ListDraft.take_comma.Goals as goal

pub returns : goal.returns
returns c =
    let ended : EndsMember c.args.self.now c.end_member.new.self = c.in_ok-end_member.ensures in
    comma-taken c.args.self.now c.end_member.new.self ended
