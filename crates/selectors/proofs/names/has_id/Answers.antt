use Rattle.std.proofs.Common.{◌∙◌, ap}
use Rattle.std.specs.Str.{chars}
use Rattle.page_model.specs.Document.{value_at}
use Rattle.selectors_model.specs.Matching.{attribute_matches}
use Rattle.selectors_model.specs.declared.attribute_matcher.AttributeMatcher.TheVariants.{Equals}
use Rattle.selectors.proofs.Comparisons.{id-chars}
use Rattle.selectors.proofs.names.has_id.Goals as goal

pub returns : goal.returns
returns c =
    c.attribute_matches.ensures
    ∙ ap (λ name. attribute_matches Equals (value_at name c.args.id c.args.doc.now.document.root) (chars c.args.value.now)) id-chars
