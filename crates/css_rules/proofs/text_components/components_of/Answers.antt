use Rattle.std.proofs.Common.{◌<◌, subst}
use Rattle.std.specs.Str.{chars}
use Rattle.std.proofs.lemmas.Result.{IfOk-weaker}
use Rattle.css_model.specs.declared.token.TheConstants.{MAX_NESTING}
use Rattle.css_model.specs.Components.{depths}
use Rattle.css_tokens.specs.Nested.{components_view}
use Rattle.css_rules.proofs.Texts.{components-text}
use Rattle.css_rules.proofs.text_components.components_of.Goals as goal

pub returns-clause-components : goal.returns-clause-components
returns-clause-components c =
    IfOk-weaker c.components.result _ _
    (λ cs nested. components-text (chars c.args.text.now) c.in_ok-tokens.tokens (components_view cs)
    c.in_ok-tokens.ensures.tokens nested.0)
    c.components.ensures.nested

pub returns-clause-deep : goal.returns-clause-deep
returns-clause-deep c = λ e.
    let deep = c.components.ensures.deep e in
    subst (λ cs. MAX_NESTING < depths cs)
    (components-text (chars c.args.text.now) c.in_ok-tokens.tokens deep.0
    c.in_ok-tokens.ensures.tokens deep.1) deep.2
