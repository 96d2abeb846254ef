use Rattle.std.proofs.Common.{◌≡◌, take}
use Rattle.relayout_cli.specs.inner.RuleLines.{condition_counts, AreAtMost}
use Rattle.relayout_cli.proofs.rules.count_conditions.Given as goal

abbrev pub invariant-loop-condition : goal.invariant-loop-condition
invariant-loop-condition l = record {
  counts : l.counts ≡ condition_counts (take l.condition-index l.conditions);
  few : AreAtMost l.condition-index l.counts;
}
