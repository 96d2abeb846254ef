use Rattle.std.proofs.Common.{◌∙◌, ap}
use Rattle.std.specs.Str.{chars}
use Rattle.page_model.specs.Document.{value_at}
use Rattle.selectors_model.specs.Matching.{attribute_matches}
use Rattle.selectors_model.specs.declared.attribute_matcher.AttributeMatcher.TheVariants.{Includes}
use Rattle.selectors.proofs.Comparisons.{class-chars}
use Rattle.selectors.proofs.names.has_class.Goals as goal

pub returns : goal.returns
returns c =
    c.attribute_matches.ensures
    ∙ ap (λ name. attribute_matches Includes (value_at name c.args.id c.args.doc.now.document.root) (chars c.args.name.now)) class-chars
