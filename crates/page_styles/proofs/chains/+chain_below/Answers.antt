use Rattle.std.proofs.Common.{rules, ◌≡◌, ◌∙◌, sym, subst, IfOk}
use Rattle.cascade_core.specs.StyledView.{styled_view}
use Rattle.page_styles.specs.inner.Sources.{source_view}
use Rattle.page_styles.proofs.ChainStyles.{begun-child, begun-parent, begun-root, child-below, logged-child, parted, root-below, step-up, top-is}
use Rattle.page_styles.proofs.chains.+chain_below.Goals as goal

pub chain_at_root-requires-clause-top : goal.chain_at_root-requires-clause-top
chain_at_root-requires-clause-top g t c =
    top-is c.args.from.now.doc.now.document.root c.args.id c.args.above.now c.requires.element c.requires.path (sym c.is_empty.ensures ∙ c.if-is_empty.true)

pub returns-then-is_empty-clause-begun : goal.returns-then-is_empty-clause-begun
returns-then-is_empty-clause-begun g t c =
    begun-root c.chain_at_root.result c.args.id c.args.above.now c.args.steps.now c.chain_at_root.new.steps (sym c.is_empty.ensures ∙ c.if-is_empty.true)
    c.chain_at_root.ensures.begun

pub chain_below-requires : goal.chain_below-requires
chain_below-requires g t c κs within =
    let up = step-up c.args.from.now.doc.now.document.root c.args.id _ _ c.args.above.now c.root.ensures.facts.ids.0
    (parted c.args.above.now (sym c.is_empty.ensures ∙ c.if-is_empty.false)) c.requires.path in
    (search rules, (within, (up.named, (up.path, (c.requires.narrow, c.requires.room)))))

pub returns-in_err-parent-clause-begun : goal.returns-in_err-parent-clause-begun
returns-in_err-parent-clause-begun g t c =
    begun-parent c.from_residual.result c.args.id _ _ c.args.above.now c.args.steps.now c.chain_below.new.steps
    (parted c.args.above.now (sym c.is_empty.ensures ∙ c.if-is_empty.false)) c.in_err-parent.ensures.begun

pub returns-clause-style : goal.returns-clause-style
returns-clause-style g t c =
    subst (λ s. IfOk c.chain_of_child.result (λ x. styled_view x.styled ≡ s))
    (child-below (source_view c.args.from.now) c.args.id _ _ c.args.above.now (styled_view c.in_ok-parent.parent.styled) c.in_ok-parent.parent.rem
    (parted c.args.above.now (sym c.is_empty.ensures ∙ c.if-is_empty.false)) c.in_ok-parent.ensures.style c.in_ok-parent.ensures.rem)
    c.chain_of_child.ensures.style

pub returns-clause-begun : goal.returns-clause-begun
returns-clause-begun g t c =
    begun-child c.chain_of_child.result c.args.id _ _ c.args.above.now c.args.steps.now c.chain_below.new.steps c.chain_of_child.new.steps
    (parted c.args.above.now (sym c.is_empty.ensures ∙ c.if-is_empty.false)) c.in_ok-parent.ensures.logged c.chain_of_child.ensures.begun

pub returns-then-is_empty-clause-style : goal.returns-then-is_empty-clause-style
returns-then-is_empty-clause-style g t c =
    subst (λ s. IfOk c.chain_at_root.result (λ x. styled_view x.styled ≡ s))
    (root-below (source_view c.args.from.now) c.args.id c.args.above.now (sym c.is_empty.ensures ∙ c.if-is_empty.true))
    c.chain_at_root.ensures.style

pub returns-clause-logged : goal.returns-clause-logged
returns-clause-logged g t c =
    logged-child c.chain_of_child.result c.args.id _ _ c.args.above.now c.args.steps.now c.chain_below.new.steps c.chain_of_child.new.steps
    (parted c.args.above.now (sym c.is_empty.ensures ∙ c.if-is_empty.false)) c.in_ok-parent.ensures.logged c.chain_of_child.ensures.logged
