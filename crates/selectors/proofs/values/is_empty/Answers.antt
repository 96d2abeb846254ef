use Rattle.std.proofs.Common.{◌∙◌}
use Rattle.selectors.proofs.Comparisons.{empty-same}
use Rattle.selectors.proofs.values.is_empty.Goals as goal

pub returns : goal.returns
returns c = c.is_empty.ensures ∙ empty-same c.args.s.now c.utf8.s
