use Rattle.query_units.specs.inner.Sums.{sum_after}
use Rattle.query_units.proofs.SumSteps.{white_step}
use Rattle.query_units.proofs.sums.Sum.take_white.Goals as goal

pub returns : goal.returns
unfolding sum_after
returns c = λ items. white_step c.args.self.terms c.args.self.product c.args.self.last items
