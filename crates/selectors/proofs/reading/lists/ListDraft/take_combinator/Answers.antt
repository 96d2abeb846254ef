use Rattle.std.proofs.lemmas.Result.{on_ok_weaker}
use Rattle.selectors.proofs.ListDrafts.{combinator-taken}
use Rattle.selectors.proofs.reading.lists.ListDraft.take_combinator.Goals as goal

pub returns : goal.returns
returns c =
    on_ok_weaker c.take_combinator.result (combinator-taken c.args.self.now c.take_combinator.new.self c.args.by)
    c.take_combinator.ensures
