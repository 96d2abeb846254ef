use Rattle.std.proofs.Common.{◌∙◌, ◌+◌, ap, sym, arith}
use Rattle.css_tokens.specs.Nested.{components_view}
use Rattle.conditions_model.specs.SizeFeatures.{after_sign, sides_of}
use Rattle.size_features.proofs.Parts.{take-rest}
use Rattle.size_features.proofs.Sides.{sides-end, sides-found, sides-step}
use Rattle.size_features.proofs.signs.split_at_sign.Goals as goal

pub returns-in-Some : goal.returns-in-Some
returns-in-Some c =
    sides-found c.args.components.now c.loop-place.place c.index-components-place.result
    c.loop-place-test.true c.index-components-place.is c.in-Some.comparison
    c.with_equal_sign.result.comparison
    (sides_of (components_view c.with_equal_sign.result.after.now)) (sym c.in-Some.ensures)
    (c.with_equal_sign.ensures
    ∙ ap (λ ds. after_sign c.in-Some.comparison (sides_of (components_view ds)))
    (take-rest c.args.components.now (c.loop-place.place + 1)))
    c.loop-place.invariant

pub loop-place-preserved : goal.loop-place-preserved
loop-place-preserved c =
    sides-step c.args.components.now c.loop-place.place c.index-components-place.result
    c.loop-place-test.true c.index-components-place.is (sym c.in-None.ensures)
    ∙ c.loop-place.invariant

pub returns : goal.returns
returns c =
    sides-end c.args.components.now c.loop-place.place (omega (arith, c.loop-place-test.false))
    c.loop-place.invariant
