use Rattle.selectors_laws.proofs.Forgiving.{is-of, where-of, not-of}
use Rattle.selectors_laws.proofs.grammar.functions.Goals as goal

pub returns-clause-is : goal.returns-clause-is
returns-clause-is c = is-of

pub returns-clause-where_list : goal.returns-clause-where_list
returns-clause-where_list c = where-of

pub returns-clause-not_list : goal.returns-clause-not_list
returns-clause-not_list c = not-of
