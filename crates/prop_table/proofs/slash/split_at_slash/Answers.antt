use Rattle.std.proofs.Common.{◌∙◌, sym}
use Rattle.prop_table.proofs.Slashes.{before-step, after-step}
use Rattle.prop_table.proofs.slash.split_at_slash.Goals as goal

pub loop-place-preserved : goal.loop-place-preserved
loop-place-preserved c =
    let cs = c.args.components.now in
    let at = c.loop-place.place in
    let one = c.index-components-place.result in
    let no_slash = sym c.is_slash.ensures ∙ c.if-is_slash.false in
    record {
      before = before-step cs at one c.loop-place-test.true c.index-components-place.is no_slash ∙ c.loop-place.invariant.before;
      after = after-step cs at one c.loop-place-test.true c.index-components-place.is no_slash ∙ c.loop-place.invariant.after;
    }
