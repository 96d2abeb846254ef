use Rattle.std.proofs.Common.{refl}
use Rattle.cascade_core.specs.declared.winners.BothTables.{BothTables}
use Rattle.cascade_core.proofs.AreWinners.{taken_by_one}
use Rattle.cascade_core.proofs.winners.take_of_author.Goals as goal

pub returns : goal.returns
returns c =
    let new : BothTables = record {
      all = c.offer.new.self;
      user_agent = c.args.tables.now.user_agent;
      customs = c.args.tables.now.customs;
    } in
    taken_by_one c.args.tables.now new c.in_ok-applied.applied c.args.place c.args.kept.now c.args.prop
    c.requires.target c.requires.origin c.in_ok-applied.ensures refl refl c.offer.ensures
