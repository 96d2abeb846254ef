use Rattle.std.proofs.Common.{ap}
use Rattle.custom_props.specs.inner.TokenParts.{number_of, text_of}
use Rattle.custom_props.proofs.SameParts.{same_type}
use Rattle.custom_props.proofs.token_kind.is_same_type.Goals as goal

pub returns-then-have_same_kind : goal.returns-then-have_same_kind
returns-then-have_same_kind c = (
  (λ r.
      let value = c.have_same_value.ensures.0 r in
      same_type c.args.a.now c.args.b.now (c.have_same_kind.ensures.0 c.if-have_same_kind.true) value.0 value.1),
  (λ e. c.have_same_value.ensures.1 (ap text_of e, ap number_of e)),
)
