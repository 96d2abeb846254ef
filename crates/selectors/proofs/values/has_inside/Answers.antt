use Rattle.std.proofs.lemmas.Str.Pattern.{contains_text}
use Rattle.selectors.proofs.Comparisons.{inside-same}
use Rattle.selectors.proofs.values.has_inside.Goals as goal

pub returns : goal.returns
returns c =
    inside-same c.contains.result c.args.actual.now c.args.value.now c.utf8.actual c.utf8.value c.requires
    (contains_text c.contains.result c.args.value.now c.args.actual.now c.contains.ensures.cases)
