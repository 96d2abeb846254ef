use Rattle.std.proofs.Common.{◌∙◌}
use Rattle.selectors.proofs.Comparisons.{same-same}
use Rattle.selectors.proofs.values.is_same.Goals as goal

pub returns : goal.returns
returns c = c.eq.ensures ∙ same-same c.args.a.now c.args.b.now c.utf8.a c.utf8.b
