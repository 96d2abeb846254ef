use Rattle.std.proofs.Common.{codes, refl}
use Rattle.stream_model.proofs.examples.examples_of_bytes.Goals as goal

pub returns-clause-taken_count : goal.returns-clause-taken_count
returns-clause-taken_count c = (codes "ab", refl, refl)
