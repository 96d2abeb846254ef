use Rattle.std.proofs.Common.{rules}
use Rattle.std.proofs.lemmas.Result.{on_ok_weaker}
use Rattle.selectors.proofs.ListDrafts.{part-taken, descendant-taken}
use Rattle.selectors.proofs.reading.lists.ListDraft.take_part.Goals as goal

pub returns-then-is_descendant : goal.returns-then-is_descendant
returns-then-is_descendant c =
    on_ok_weaker c.take_part.result
    (descendant-taken c.args.self.now c.take_combinator.new.self c.take_part.new.self c.args.part
    (search rules) c.in_ok-take_combinator.ensures)
    c.take_part.ensures

pub returns : goal.returns
returns c =
    on_ok_weaker c.take_part-2.result
    (part-taken c.args.self.now c.take_part-2.new.self c.args.part (search rules))
    c.take_part-2.ensures
