use Rattle.std.proofs.Common.{◌∙◌, ap, ◌++◌, string_bytes, List, true}
use Rattle.std.proofs.lemmas.Result.{on_ok_weaker}
use Rattle.css_tokens.specs.declared.component.Component.{Component}
use Rattle.reply_texts.specs.inner.Customs.{all_tokens_after, components_tokens}
use Rattle.reply_texts.proofs.CustomValues.{quoted_value}
use Rattle.reply_texts.proofs.custom_values.push_custom_value.Goals as goal

pub returns : goal.returns
returns c =
    on_ok_weaker c.push_text-2.result
    (quoted_value c.args.value.now _ _ _ _ c.in_ok-push_text.ensures.text
    (c.in_ok-push_components.ensures.text
    ∙ ap (λ (cs : List Component). string_bytes c.push_text.new.reply ++ all_tokens_after true (components_tokens cs)) c.as_slice.ensures))
    c.push_text-2.ensures.text
