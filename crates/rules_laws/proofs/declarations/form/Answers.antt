use Rattle.rules_laws.proofs.Declared.{declared}
use Rattle.rules_laws.proofs.declarations.form.Goals as goal

pub returns : goal.returns
returns c = declared
