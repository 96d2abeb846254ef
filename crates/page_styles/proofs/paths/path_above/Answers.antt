use Rattle.std.proofs.Common.{◌∙◌, sym, subst, append-nil, ℕ, List, []}
use Rattle.page_styles.specs.Paths.{IsPathAbove}
use Rattle.page_styles.proofs.IsPathAbove.{higher}
use Rattle.page_styles.proofs.paths.path_above.Goals as goal

pub up-smaller : goal.up-smaller
up-smaller c =
    higher c.args.doc.now.document.root c.up.at c.in-Some.parent c.root.ensures.facts.ids.0 (sym c.parent.ensures ∙ c.in-Some.is)

pub returns-in-None : goal.returns-in-None
returns-in-None c =
    subst (λ (above : List ℕ). IsPathAbove c.args.doc.now.document.root c.args.id above) (append-nil c.up.above)
    (c.up.invariant [] (sym c.parent.ensures ∙ c.in-None.is))
