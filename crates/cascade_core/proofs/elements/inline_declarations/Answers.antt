use Rattle.std.proofs.Common.{rules, ◌≡◌, ◌∙◌, ap}
use Rattle.std.proofs.lemmas.Result.{IfOk-weaker}
use Rattle.std.specs.Str.{IsUtf8, chars}
use Rattle.css_rules.specs.Views.{declarations_view}
use Rattle.rules_model.specs.Sheets.{style_attr_of}
use Rattle.cascade_model.specs.DocumentStyles as model
use Rattle.cascade_model.specs.Kept.{kept_declarations}
use Rattle.cascade_core.proofs.StyleAttribute.{inline-read, inline-none}
use Rattle.cascade_core.proofs.elements.inline_declarations.Goals as goal

pub returns-in-Some : goal.returns-in-Some
returns-in-Some c =
    let utf8 : IsUtf8 c.in-Some.text.now = search rules in
    IfOk-weaker c.parse_style_attr.result (λ ds. declarations_view ds ≡ style_attr_of (chars c.in-Some.text.now))
    (λ ds. kept_declarations (declarations_view ds) ≡ model.inline_declarations c.args.doc.now.document.root c.args.id)
    (λ ds spelled. inline-read c.args.doc.now.document.root c.args.id c.in-Some.text.now (declarations_view ds) utf8
    c.in-Some.ensures spelled)
    c.parse_style_attr.ensures

pub returns-in-None : goal.returns-in-None
returns-in-None c =
    ap (λ ds. kept_declarations (declarations_view ds)) c.new.ensures
    ∙ inline-none c.args.doc.now.document.root c.args.id c.in-None.ensures
