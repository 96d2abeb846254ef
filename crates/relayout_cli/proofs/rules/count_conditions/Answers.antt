use Rattle.std.proofs.Common.{◌≡◌, ◌∙◌, ap, sym, subst, ◌+◌, ◌≤◌, List, ℕ, arith, rules}
use Rattle.relayout_cli.specs.inner.RuleLines.{count_at, AreAtMost}
use Rattle.relayout_cli.proofs.RuleLemmas.{counts-next, count-at-most, at-most-push}
use Rattle.relayout_cli.proofs.rules.count_conditions.Goals as goal

pub overflow_add-around : goal.overflow_add-around
overflow_add-around c =
    let few : c.count_at-around.result ≤ c.loop-condition.condition-index =
    rw (c.count_at-around.ensures, c.as_slice.ensures) (count-at-most c.loop-condition.condition-index c.loop-condition.counts c.condition-item.result.around c.loop-condition.invariant.few) in
    search (rules, few)

pub loop-condition-preserved : goal.loop-condition-preserved
loop-condition-preserved c =
    let i = c.loop-condition.condition-index in
    let counts = c.loop-condition.counts in
    let around = c.condition-item.result.around in
    let n : c.count_at-around.result ≡ count_at counts around = c.count_at-around.ensures ∙ ap (λ (cs : List ℕ). count_at cs around) c.as_slice.ensures in
    let few : count_at counts around ≤ i = count-at-most i counts around c.loop-condition.invariant.few in
    record {
      counts = counts-next c.args.conditions.now i c.condition-item.result counts _ c.count_at-around.result c.loop-condition-test.true c.condition-item.is c.loop-condition.invariant.counts n c.in_ok-push.ensures.ok;
      few = subst (λ (cs : List ℕ). AreAtMost (i + 1) cs) (sym c.in_ok-push.ensures.ok) (at-most-push i counts (c.count_at-around.result + 1) c.loop-condition.invariant.few (omega (arith, few, n)));
    }
