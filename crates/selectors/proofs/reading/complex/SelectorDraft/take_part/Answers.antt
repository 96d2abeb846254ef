use Rattle.std.proofs.lemmas.Result.{on_ok_weaker}
use Rattle.selectors.proofs.SelectorDrafts.{part-taken}
use Rattle.selectors.proofs.reading.complex.SelectorDraft.take_part.Goals as goal

pub returns : goal.returns
returns c =
    on_ok_weaker c.take.result (part-taken c.args.self.now c.take.new.self c.args.part) c.take.ensures
