use Rattle.std.proofs.Common.{◌∙◌}
use Rattle.std.proofs.lemmas.Str.Pattern.{ends_text}
use Rattle.selectors.proofs.Comparisons.{ends-same}
use Rattle.selectors.proofs.values.ends_with.Goals as goal

pub returns : goal.returns
returns c =
    ends_text c.ends_with.result c.args.value.now c.args.actual.now c.ends_with.ensures.cases
    ∙ ends-same c.args.actual.now c.args.value.now c.utf8.actual c.utf8.value
