use Rattle.std.proofs.Common.{◌≡◌, drop}
use Rattle.css_tokens.specs.Nested.{components_view}
use Rattle.rules_model.specs.Declarations.{is_important_word}
use Rattle.css_rules.proofs.important.is_important_word.Given as goal

abbrev pub invariant-loop-place : goal.invariant-loop-place
invariant-loop-place l =
    is_important_word (components_view (drop l.place l.components))
    ≡ is_important_word (components_view l.components)
