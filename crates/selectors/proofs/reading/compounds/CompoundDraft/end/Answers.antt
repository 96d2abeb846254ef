use Rattle.selectors.proofs.CompoundDrafts.{ended-whole, ended-invalid}
use Rattle.selectors.proofs.reading.compounds.CompoundDraft.end.Goals as goal

pub returns-then-is_complete-clause-compound : goal.returns-then-is_complete-clause-compound
returns-then-is_complete-clause-compound c = λ in_function.
    ended-whole in_function c.is_complete.result c.args.self.now c.replace-simples.result
    c.replace-simples.ensures.value c.is_complete.ensures c.if-is_complete.true

pub returns-else-is_complete-clause-compound : goal.returns-else-is_complete-clause-compound
returns-else-is_complete-clause-compound c = λ in_function.
    ended-invalid in_function c.is_complete.result c.args.self.now c.replace-simples.result
    c.replace-simples.ensures.value c.is_complete.ensures c.if-is_complete.false
