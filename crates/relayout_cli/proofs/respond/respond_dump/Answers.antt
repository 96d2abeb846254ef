use Rattle.relayout_cli.proofs.ResponseLemmas.{OnOk-refused_dump, OnOk-built_dump}
use Rattle.relayout_cli.proofs.respond.respond_dump.Goals as goal

pub returns-then-styled : goal.returns-then-styled
returns-then-styled c =
    OnOk-refused_dump c.push_error.result c.args.page.now c.in_ok-styled.styled _ _ c.in_ok-styled.ensures c.if-styled.true c.push_error.ensures.line c.requires.empty

pub returns : goal.returns
returns c =
    OnOk-built_dump c.push_dump.result c.args.page.now c.in_ok-styled.styled _ c.in_ok-styled.ensures c.if-styled.false c.push_dump.ensures.dump
