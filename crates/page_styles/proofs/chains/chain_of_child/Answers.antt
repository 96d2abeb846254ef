use Rattle.std.proofs.Common.{◌∙◌, ap, refl}
use Rattle.cascade_core.specs.StyledView.{styled_view}
use Rattle.cascade_model.specs.Defaulting.{font_size_in}
use Rattle.page_styles.specs.inner.Sources.{source_view}
use Rattle.page_styles.proofs.ChainStyles.{of-child}
use Rattle.page_styles.proofs.chains.chain_of_child.Goals as goal

pub returns-clause-style : goal.returns-clause-style
returns-clause-style g c =
    of-child (source_view c.args.from.now) c.args.id (styled_view c.in_ok-styled.styled) (styled_view c.args.parent.now.styled) _
    c.bases_in-bases.result c.font_size_of-em.result c.args.parent.now.rem c.in_ok-styled.ensures.style refl
    c.bases_in-bases.ensures (c.font_size_of-em.ensures ∙ ap font_size_in c.style.ensures)
