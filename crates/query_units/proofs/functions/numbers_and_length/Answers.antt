use Rattle.query_units.proofs.CallSteps.{push_length_to_numbers}
use Rattle.query_units.proofs.functions.numbers_and_length.Goals as goal

pub returns : goal.returns
returns c = λ a f values. push_length_to_numbers c.args.first c.args.others a f values
