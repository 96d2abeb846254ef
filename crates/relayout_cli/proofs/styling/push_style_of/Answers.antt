use Rattle.std.proofs.Common.{◌∙◌, ap₂, ◌++◌, string_bytes}
use Rattle.cascade_core.specs.StyledView.{styled_view}
use Rattle.reply_model.specs.StyleText.{styling_lines}
use Rattle.relayout_cli.specs.Pages.{page_view}
use Rattle.relayout_cli.proofs.SheetLemmas.{few-parsed}
use Rattle.relayout_cli.proofs.StyleLemmas.{OnOk-style, styled-text}
use Rattle.relayout_cli.proofs.styling.push_style_of.Goals as goal

pub read-requires : goal.read-requires
read-requires g c = few-parsed c.args.page.now.sheets c.args.page.now.parsed c.args.page.now.within

pub returns-clause-style : goal.returns-clause-style
returns-clause-style g c =
    OnOk-style c.push_ok.result (page_view c.args.page.now) c.args.id (styled_view c.in_ok-styled.styled) (string_bytes c.args.reply.now)
    (string_bytes c.push_style.new.reply) _
    (styled-text c.args.page.now c.in_ok-book.book c.args.id (styled_view c.in_ok-styled.styled) c.in_ok-book.ensures c.in_ok-styled.ensures.style
    c.root.ensures.facts.ids.0 c.requires.element)
    c.requires.empty
    (c.in_ok-push_style.ensures
    ∙ ap₂ (λ s e. string_bytes c.args.reply.now ++ styling_lines (record { style = s; environment = e }))
    c.style.ensures c.env.ensures)
    c.push_ok.ensures.line
