use Rattle.std.proofs.Common.{refl}
use Rattle.cascade_core.specs.declared.winners.BothTables.{BothTables}
use Rattle.cascade_core.proofs.AreWinners.{taken_by_both}
use Rattle.cascade_core.proofs.winners.take_of_user_agent.Goals as goal

pub returns : goal.returns
returns c =
    let new : BothTables = record {
      all = c.offer-2.new.self;
      user_agent = c.offer.new.self;
      customs = c.args.tables.now.customs;
    } in
    taken_by_both c.args.tables.now new c.in_ok-alone.alone c.in_ok-among_all.among_all c.args.place c.args.kept.now
    c.args.prop c.requires.target c.requires.origin c.in_ok-alone.ensures c.in_ok-among_all.ensures refl
    c.offer.ensures c.offer-2.ensures
