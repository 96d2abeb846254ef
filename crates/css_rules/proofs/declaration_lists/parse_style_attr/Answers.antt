use Rattle.std.proofs.Common.{◌∙◌, ap, Err}
use Rattle.std.specs.Str.{chars}
use Rattle.std.proofs.lemmas.Result.{IfOk-weaker}
use Rattle.css_tokens.specs.Nested.{components_view}
use Rattle.css_rules.specs.Views.{declarations_view}
use Rattle.css_rules.proofs.Texts.{style-read, style-deep}
use Rattle.css_rules.proofs.declaration_lists.parse_style_attr.Goals as goal

pub returns-in-Ok : goal.returns-in-Ok
returns-in-Ok c =
    let read = style-read (chars c.args.text.now) (components_view c.in-Ok.components)
    c.in-Ok.ensures.components c.in-Ok.ensures.low in
    IfOk-weaker c.declarations_in.result _ _ (λ ds is. is ∙ read) c.declarations_in.ensures

pub returns-in-Err-TooDeep : goal.returns-in-Err-TooDeep
returns-in-Err-TooDeep c =
    ap declarations_view c.new.ensures
    ∙ style-deep (chars c.args.text.now)
    (c.in-Err-TooDeep.ensures.deep (ap Err c.in-Err-TooDeep.field-0-is))
