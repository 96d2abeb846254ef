use Rattle.std.proofs.Common.{rules, ◌≡◌, refl}
use Rattle.std.proofs.lemmas.Result.{on_ok_weaker}
use Rattle.cascade_core.specs.declared.customs.CustomWinner.{CustomWinner}
use Rattle.cascade_core.specs.declared.winners.BothTables.{BothTables}
use Rattle.cascade_core.proofs.AreWinners.{taken_by_custom}
use Rattle.cascade_core.proofs.winners.take_of_custom.Goals as goal

pub returns : goal.returns
returns c =
    let new : BothTables = record {
      all = c.args.tables.now.all;
      user_agent = c.args.tables.now.user_agent;
      customs = c.offer.new.self;
    } in
    let added : CustomWinner = record { name = c.in_ok-name.name; applied = c.in_ok-applied.applied } in
    let named : c.in_ok-name.name.value ≡ c.args.name.now.value = search rules in
    on_ok_weaker c.offer.result
    (λ offers. taken_by_custom c.args.tables.now new added c.args.place c.args.kept.now c.args.name.now.value
    c.requires named c.in_ok-applied.ensures refl refl offers)
    c.offer.ensures
