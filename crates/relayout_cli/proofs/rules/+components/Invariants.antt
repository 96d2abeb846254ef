use Rattle.std.proofs.Common.{◌≡◌, ◌++◌, drop, string_bytes}
use Rattle.relayout_cli.specs.inner.RuleLines.{components_in_quotes}
use Rattle.relayout_cli.proofs.rules.+components.Given as goal

-- what was appended so far and the rest are all
abbrev pub invariant-push_components-loop-component : goal.invariant-push_components-loop-component
invariant-push_components-loop-component l = string_bytes l.reply ++ components_in_quotes (drop l.component-index l.components) ≡ string_bytes l.fn.reply ++ components_in_quotes l.components
