use Rattle.std.proofs.lemmas.Result.{on_ok_weaker}
use Rattle.css_model.specs.Components.{close_tokens}
use Rattle.reply_texts.specs.inner.Customs.{components_tokens}
use Rattle.reply_texts.proofs.CustomValues.{block_text, next_first, next_text}
use Rattle.reply_texts.proofs.custom_values.+components.Goals as goal

pub push_block-returns-clause-text : goal.push_block-returns-clause-text
push_block-returns-clause-text t c =
    on_ok_weaker c.push_close.result
    (block_text c.args.first c.in_ok-after_head.after_head c.in_ok-after_contents.after_contents c.args.head.now
    (components_tokens c.args.contents.now) (close_tokens c.args.close.now) _ _ _ _
    c.in_ok-after_head.ensures.text c.in_ok-after_head.ensures.first
    c.in_ok-after_contents.ensures.text c.in_ok-after_contents.ensures.first)
    c.push_close.ensures.text

pub push_components-loop-component-preserved : goal.push_components-loop-component-preserved
push_components-loop-component-preserved t c = record {
  text = next_text c.loop-component.first c.in_ok-first.first c.args.components.now c.loop-component.component-index
      c.component-item.result _ _ _ c.loop-component-test.true c.component-item.is c.in_ok-first.ensures.text
      c.in_ok-first.ensures.first c.loop-component.invariant.text;
  first = next_first c.loop-component.first c.in_ok-first.first _ c.args.components.now
      c.loop-component.component-index c.component-item.result c.loop-component-test.true c.component-item.is
      c.in_ok-first.ensures.first c.loop-component.invariant.first;
}
