use Rattle.std.proofs.Common.{subst, sym}
use Rattle.selectors.specs.Rules.{IsAfterAll}
use Rattle.selectors.proofs.AreAscending.{ascending-after}
use Rattle.selectors.proofs.rules.RuleList.push.Goals as goal

pub invariant_of-self : goal.invariant_of-self
invariant_of-self c =
    ascending-after c.push.result c.self.inside.rules c.push.new.self (record { number = c.args.rule; list = c.args.list })
    c.self.invariant (subst (IsAfterAll c.args.rule) (sym c.self.view_is) c.requires.later) c.push.ensures.ok c.push.ensures.err
