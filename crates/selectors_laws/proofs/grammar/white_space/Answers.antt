use Rattle.selectors_laws.proofs.WhiteSpace.{at-the-end, before, after}
use Rattle.selectors_laws.proofs.grammar.white_space.Goals as goal

pub returns-clause-at_the_end : goal.returns-clause-at_the_end
returns-clause-at_the_end c = at-the-end

pub returns-clause-before : goal.returns-clause-before
returns-clause-before c = before

pub returns-clause-after : goal.returns-clause-after
returns-clause-after c = after
