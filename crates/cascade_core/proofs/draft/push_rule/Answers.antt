use Rattle.std.proofs.Common.{ap, sym, subst, length}
use Rattle.std.proofs.lemmas.Result.{on_ok_weaker}
use Rattle.selectors.specs.Rules.{IsAfterAll}
use Rattle.selectors.specs.declared.rules.Rule.{Rule}
use Rattle.cascade_core.specs.declared.draft.Draft.{Draft}
use Rattle.cascade_core.specs.declared.rule_body.RuleBody.{RuleBody}
use Rattle.cascade_core.proofs.IsDraft.{rule-added}
use Rattle.cascade_core.proofs.Numbers.{after-numbered}
use Rattle.cascade_core.proofs.draft.push_rule.Goals as goal

pub push-requires : goal.push-requires
push-requires c = record {
  later =
      subst (λ n. IsAfterAll n c.args.draft.now.rules) (ap length (sym c.as_slice.ensures.rules))
      (after-numbered c.args.draft.now.rules c.requires.sound.numbered);
}

pub returns : goal.returns
returns c =
    let new : Draft = record { rules = c.push.new.self; bodies = c.push-2.new.self } in
    let rule : Rule = record { number = length c.as_slice.result.now; list = c.args.list } in
    let body : RuleBody = record {
      origin = c.args.origin;
      media = c.args.media;
      declarations = c.args.declarations;
    } in
    on_ok_weaker c.push-2.result
    (λ pushed. rule-added c.args.draft.now new rule body c.requires.sound
    (ap length c.as_slice.ensures.rules) c.in_ok-push.ensures.pushed pushed)
    c.push-2.ensures.ok
