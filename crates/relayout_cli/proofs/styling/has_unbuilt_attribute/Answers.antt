use Rattle.std.proofs.Common.{rules}
use Rattle.std.specs.Str.{IsUtf8}
use Rattle.relayout_cli.proofs.StyleLemmas.{IfOk-some, attribute-none}
use Rattle.relayout_cli.proofs.styling.has_unbuilt_attribute.Goals as goal

pub returns-in-Some : goal.returns-in-Some
returns-in-Some c =
    let utf8 : IsUtf8 c.in-Some.text.now = search rules in
    IfOk-some c.is_unbuilt_attribute.result c.args.doc.now.document.root c.args.id c.in-Some.text.now utf8 c.in-Some.ensures c.is_unbuilt_attribute.ensures

pub returns-in-None : goal.returns-in-None
returns-in-None c = attribute-none c.args.doc.now.document.root c.args.id c.in-None.ensures
