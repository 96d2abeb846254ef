use Rattle.std.proofs.Common.{◌∙◌, sym}
use Rattle.selectors.proofs.Fronts.{white-passed}
use Rattle.selectors.proofs.reading.fronts.front_of.Goals as goal

pub loop-place-preserved : goal.loop-place-preserved
loop-place-preserved c =
    let passed = white-passed c.args.components.now c.loop-place.place c.index-components-place.result
    c.loop-place-test.true c.index-components-place.is (sym c.is_whitespace.ensures ∙ c.if-not-is_whitespace.false) in
    record {
      front = passed.0 ∙ c.loop-place.invariant.front;
      solid = passed.1 ∙ c.loop-place.invariant.solid;
    }
