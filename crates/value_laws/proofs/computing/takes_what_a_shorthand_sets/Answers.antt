use Rattle.value_laws.proofs.ShorthandValues.{shorthand-computes}
use Rattle.value_laws.proofs.computing.takes_what_a_shorthand_sets.Goals as goal

pub returns : goal.returns
returns c = λ name s cs b parent_font e. shorthand-computes b parent_font name s e cs
