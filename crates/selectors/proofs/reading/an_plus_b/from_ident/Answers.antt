use Rattle.std.proofs.Common.{◌∙◌, ap}
use Rattle.selectors_model.specs.AnPlusBs.{from_name}
use Rattle.selectors_model.specs.TokenTypes.{without_whitespace}
use Rattle.selectors.specs.inner.Fronts.{types}
use Rattle.selectors.proofs.LowNames.{from_name-text}
use Rattle.selectors.proofs.reading.an_plus_b.from_ident.Goals as goal

pub returns : goal.returns
returns c =
    c.from_name.ensures
    ∙ (ap (λ name. from_name name (without_whitespace (types c.args.rest.now))) (c.as_bytes.ensures.value ∙ c.as_str.ensures.bytes)
    ∙ from_name-text (without_whitespace (types c.args.rest.now)) c.args.name.now)
