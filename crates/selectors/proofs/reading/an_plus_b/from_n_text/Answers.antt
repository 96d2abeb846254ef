use Rattle.std.proofs.Common.{◌∙◌, ap, w32}
use Rattle.std.proofs.lemmas.Int.{to_z-of_z}
use Rattle.selectors_model.specs.AnPlusBs.{from_n}
use Rattle.selectors_model.specs.TokenTypes.{without_whitespace}
use Rattle.selectors.specs.inner.Fronts.{types}
use Rattle.selectors.proofs.LowNames.{from_n-text}
use Rattle.selectors.proofs.reading.an_plus_b.from_n_text.Goals as goal

pub returns : goal.returns
returns c =
    rw (to_z-of_z w32 c.args.step c.ranges.step) at c.from_n.ensures
    ∙ (ap (λ name. from_n c.args.step name (without_whitespace (types c.args.rest.now))) (c.as_bytes.ensures.value ∙ c.as_str.ensures.bytes)
    ∙ from_n-text c.args.step (without_whitespace (types c.args.rest.now)) c.args.name.now)
