use Rattle.std.proofs.Common.{◌∙◌, ap, Some, [], ◌∷◌}
use Rattle.css_tokens.specs.Nested.{components_view}
use Rattle.custom_props.proofs.Replacements.{view_append}
use Rattle.custom_props.proofs.replacing.push.Goals as goal

pub returns : goal.returns
returns c =
    ap (λ l. Some (components_view l)) c.in_ok-push.ensures.ok
    ∙ ap Some (view_append c.args.new.now (c.args.c ∷ []))
