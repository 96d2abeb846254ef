use Rattle.std.proofs.Common.{◌≡◌, ◌++◌, drop, string_bytes}
use Rattle.reply_texts.specs.inner.Customs.{all_tokens_after, components_tokens, is_first_after}
use Rattle.reply_texts.proofs.custom_values.+components.Given as goal

-- what was appended so far and the rest are all
abbrev pub invariant-push_components-loop-component : goal.invariant-push_components-loop-component
invariant-push_components-loop-component l = record {
  text : string_bytes l.reply ++ all_tokens_after l.first (components_tokens (drop l.component-index l.components))
      ≡ string_bytes l.fn.reply ++ all_tokens_after l.fn.first (components_tokens l.components);
  first : is_first_after l.first (components_tokens (drop l.component-index l.components))
      ≡ is_first_after l.fn.first (components_tokens l.components);
}
