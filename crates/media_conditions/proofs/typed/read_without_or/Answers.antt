use Rattle.std.proofs.Common.{◌≡◌, ◌∙◌, subst, sym, IfOk, option_map}
use Rattle.css_tokens.specs.Nested.{components_view}
use Rattle.tri_conditions.specs.Views.{condition_view}
use Rattle.media_conditions.specs.inner.Words.{media_words}
use Rattle.media_conditions.proofs.WithoutOr.{with-or, without-or}
use Rattle.media_conditions.proofs.typed.read_without_or.Goals as goal

pub returns-then-has_or : goal.returns-then-has_or
returns-then-has_or c =
    sym (with-or (media_words (components_view c.args.components.now))
    (sym c.has_or.ensures ∙ c.if-has_or.true))

pub returns : goal.returns
returns c =
    subst (λ x. IfOk c.read_condition_slice.result (λ read. option_map condition_view read ≡ x))
    (without-or (media_words (components_view c.args.components.now))
    (sym c.has_or.ensures ∙ c.if-has_or.false))
    c.read_condition_slice.ensures
