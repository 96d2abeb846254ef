use Rattle.std.proofs.Common.{◌∙◌, sym}
use Rattle.query_units.specs.inner.Sums.{sum_after}
use Rattle.query_units.proofs.SumSteps.{value_none}
use Rattle.query_units.proofs.sums.Sum.take_none.Goals as goal

pub returns : goal.returns
unfolding sum_after
returns c = λ items.
    c.invalid.ensures items ∙ sym (value_none c.args.self.terms c.args.self.product c.args.self.last items)
