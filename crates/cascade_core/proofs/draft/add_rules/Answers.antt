use Rattle.std.proofs.Common.{map}
use Rattle.cascade_core.specs.Views.{media_view}
use Rattle.cascade_core.proofs.IsDraft.{one-more}
use Rattle.cascade_core.proofs.draft.add_rules.Goals as goal

pub loop-rule-preserved : goal.loop-rule-preserved
loop-rule-preserved c =
    one-more c.args.draft.now c.loop-rule.draft c.add_rule.new.draft c.args.origin (map media_view c.args.places.now) c.args.rules.now
    c.loop-rule.rule-index c.rule-item.result c.loop-rule-test.true c.rule-item.is
    c.loop-rule.invariant c.in_ok-add_rule.ensures
