use Rattle.query_units.proofs.CallSteps.{push_number_to_lengths}
use Rattle.query_units.proofs.functions.lengths_and_number.Goals as goal

pub returns : goal.returns
returns c = λ n f values. push_number_to_lengths c.args.first c.args.others n f values
