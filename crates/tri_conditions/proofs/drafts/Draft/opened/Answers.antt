use Rattle.std.proofs.Common.{rules, ◌≡◌, ◌∙◌, sym, [], ◌∷◌}
use Rattle.tri_conditions.specs.Views.{condition_view}
use Rattle.tri_conditions.proofs.ConditionRests.{first-join}
use Rattle.tri_conditions.proofs.drafts.Draft.opened.Goals as goal

pub returns-in_ok-push-in-Some : goal.returns-in_ok-push-in-Some
returns-in_ok-push-in-Some g c = λ ws.
    let pushed : c.push.new.self ≡ c.args.c ∷ [] = search rules in
    rw pushed (first-join (condition_view c.args.c) c.args.name.now c.in-Some.join
    (sym c.named.ensures ∙ c.in-Some.is) ws)
