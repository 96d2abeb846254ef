use Rattle.std.proofs.Common.{subst, sym, ℕ, List}
use Rattle.page_styles.specs.Paths.{IsPathAbove}
use Rattle.page_styles.proofs.IsPathAbove.{begun-logs, log-is_styling}
use Rattle.page_styles.proofs.chains.style_of_element.Goals as goal

pub returns-in_err-chain-clause-logged : goal.returns-in_err-chain-clause-logged
returns-in_err-chain-clause-logged g c =
    begun-logs c.args.doc.now.document.root _ c.args.steps.now c.chain_below.new.steps
    (log-is_styling c.args.doc.now.document.root c.args.id _ c.root.ensures.facts.ids.0 (subst (λ (above : List ℕ). IsPathAbove c.args.doc.now.document.root c.args.id above) (sym c.as_slice.ensures) c.in_ok-above.ensures) c.requires.element) c.in_err-chain.ensures.begun

pub returns-clause-logged : goal.returns-clause-logged
returns-clause-logged g c = (
  _,
  log-is_styling c.args.doc.now.document.root c.args.id _ c.root.ensures.facts.ids.0 (subst (λ (above : List ℕ). IsPathAbove c.args.doc.now.document.root c.args.id above) (sym c.as_slice.ensures) c.in_ok-above.ensures) c.requires.element,
  c.in_ok-chain.ensures.logged,
)
