use Rattle.std.proofs.Common.{◌∙◌, ap, w32}
use Rattle.std.proofs.lemmas.Int.{to_z-of_z}
use Rattle.selectors_model.specs.AnPlusBs.{from_n}
use Rattle.selectors_model.specs.TokenTypes.{without_whitespace}
use Rattle.selectors.specs.inner.Fronts.{types}
use Rattle.selectors.proofs.reading.an_plus_b.from_dimension.Goals as goal

pub returns-then-n : goal.returns-then-n
returns-then-n c =
    rw c.if-n.true (rw (to_z-of_z w32 c.integer_value.result (record { sfits = c.integer_value.type_inv })) at c.from_n_text.ensures
    ∙ ap (λ a. from_n a c.args.unit.now (without_whitespace (types c.args.rest.now))) c.integer_value.ensures)
