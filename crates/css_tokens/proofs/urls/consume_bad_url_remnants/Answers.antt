use Rattle.std.proofs.Common.{◌∙◌, ap, length, drop}
use Rattle.std.specs.Str.{chars}
use Rattle.css_model.specs.Classes.{is_close_round}
use Rattle.css_model.specs.inner.Fronts.{one_in}
use Rattle.css_tokens.proofs.PieceEnds.{bad-url-rest}
use Rattle.css_tokens.proofs.urls.consume_bad_url_remnants.Goals as goal

pub returns : goal.returns
returns c = λ h. (
  c.token.ensures.token_type,
  ap chars c.token.ensures.rest ∙ (c.one.ensures.rest
      ∙ (ap (λ l. drop (length (one_in is_close_round l)) l) c.after_parts.ensures ∙ bad-url-rest h (chars c.args.inside.now))),
)
