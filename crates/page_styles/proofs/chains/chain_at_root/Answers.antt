use Rattle.std.proofs.Common.{◌∙◌, ap, option_map}
use Rattle.cascade_core.specs.StyledView.{styled_view}
use Rattle.cascade_model.specs.Defaulting.{font_size_in}
use Rattle.page_styles.specs.inner.Sources.{source_view}
use Rattle.page_styles.proofs.ChainStyles.{at-root, font-of-root}
use Rattle.page_styles.proofs.chains.chain_at_root.Goals as goal

pub returns-clause-style : goal.returns-clause-style
returns-clause-style g c =
    at-root (source_view c.args.from.now) c.args.id (styled_view c.in_ok-styled.styled) _ c.bases_in-bases.result c.initial_font_size-initial.result
    c.in_ok-styled.ensures.style (c.styled_of-parent.ensures ∙ ap (option_map (λ x. styled_view x.styled)) c.requires.alone)
    c.bases_in-bases.ensures c.initial_font_size-initial.ensures

pub returns-clause-rem : goal.returns-clause-rem
returns-clause-rem g c =
    font-of-root (source_view c.args.from.now) c.args.id (styled_view c.in_ok-styled.styled) c.font_size_of-rem.result
    (at-root (source_view c.args.from.now) c.args.id (styled_view c.in_ok-styled.styled) _ c.bases_in-bases.result c.initial_font_size-initial.result
    c.in_ok-styled.ensures.style (c.styled_of-parent.ensures ∙ ap (option_map (λ x. styled_view x.styled)) c.requires.alone)
    c.bases_in-bases.ensures c.initial_font_size-initial.ensures)
    c.requires.top (c.font_size_of-rem.ensures ∙ ap font_size_in c.style.ensures)
