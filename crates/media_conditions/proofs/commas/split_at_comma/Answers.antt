use Rattle.std.proofs.Common.{◌∙◌, ◌+◌, ◌∷◌, ap, sym, take, arith}
use Rattle.css_tokens.specs.Nested.{components_view}
use Rattle.conditions_model.specs.MediaQueries.{between_commas}
use Rattle.size_features.proofs.Parts.{take-rest}
use Rattle.media_conditions.proofs.Pieces.{pieces-end, pieces-found, pieces-step}
use Rattle.media_conditions.proofs.commas.split_at_comma.Goals as goal

pub returns-then-is_comma-clause-pieces : goal.returns-then-is_comma-clause-pieces
returns-then-is_comma-clause-pieces c =
    let cs = c.args.components.now in
    let at = c.loop-place.place in
    ap (λ ds. components_view (take at cs) ∷ between_commas (components_view ds)) (take-rest cs (at + 1))
    ∙ pieces-found cs at c.index-components-place.result c.loop-place-test.true
    c.index-components-place.is (sym c.is_comma.ensures ∙ c.if-is_comma.true) c.loop-place.invariant

pub loop-place-preserved : goal.loop-place-preserved
loop-place-preserved c =
    pieces-step c.args.components.now c.loop-place.place c.index-components-place.result
    c.loop-place-test.true c.index-components-place.is (sym c.is_comma.ensures ∙ c.if-is_comma.false)
    ∙ c.loop-place.invariant

pub returns-clause-pieces : goal.returns-clause-pieces
returns-clause-pieces c =
    pieces-end c.args.components.now c.loop-place.place (omega (arith, c.loop-place-test.false))
    c.loop-place.invariant
