use Rattle.std.proofs.Common.{◌∙◌}
use Rattle.std.proofs.lemmas.Str.Pattern.{starts_text}
use Rattle.selectors.proofs.Comparisons.{starts-same}
use Rattle.selectors.proofs.values.starts_with.Goals as goal

pub returns : goal.returns
returns c =
    starts_text c.starts_with.result c.args.value.now c.args.actual.now c.starts_with.ensures.cases
    ∙ starts-same c.args.actual.now c.args.value.now c.utf8.actual c.utf8.value
