use Rattle.conditions_laws.proofs.WrittenConditions.{spelled-read, read-spelled}
use Rattle.conditions_laws.proofs.grammar.form.Goals as goal

pub returns : goal.returns
returns r c = λ ws d. (spelled-read ws d, read-spelled ws d)
