use Rattle.selectors.proofs.AncestorsOf.{root-orphan}
use Rattle.std.proofs.Common.{◌∙◌, ap, sym}
use Rattle.selectors_model.specs.Matching.{pseudo_class_matches}
use Rattle.selectors.proofs.matching.pseudo_class_matches.Goals as goal

pub returns-in-Root : goal.returns-in-Root
returns-in-Root c =
    root-orphan c.args.id c.args.root c.args.doc.now.document.root c.requires.here.document.ids.0 c.requires.root_is c.requires.here.element
    ∙ ap (λ p. pseudo_class_matches p c.args.id c.args.doc.now.document.root) (sym c.in-Root.is)
