use Rattle.std.proofs.lemmas.Result.{on_ok_weaker}
use Rattle.std.proofs.Common.{◌∙◌, sym}
use Rattle.selectors.proofs.CompoundDrafts.{added-forbidden, added-pushed}
use Rattle.selectors.proofs.reading.compounds.CompoundDraft.add.Goals as goal

pub returns-then-is_forbidden : goal.returns-then-is_forbidden
returns-then-is_forbidden c =
    added-forbidden c.args.in_function c.args.self.now c.args.simple c.args.next
    (sym c.is_forbidden.ensures ∙ c.if-is_forbidden.true)

pub returns : goal.returns
returns c =
    on_ok_weaker c.push.result
    (added-pushed c.args.in_function c.args.self.now c.args.simple c.args.next c.push.new.self
    (sym c.is_forbidden.ensures ∙ c.if-is_forbidden.false))
    c.push.ensures.ok
