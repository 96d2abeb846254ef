use Rattle.std.proofs.Common.{None}
use Rattle.query_units.specs.declared.sums.Last.TheVariants.{Other}
use Rattle.query_units.proofs.SumSteps.{invalid_sum}
use Rattle.query_units.proofs.sums.Sum.invalid.Goals as goal

pub returns : goal.returns
returns c = λ items. invalid_sum None Other items
