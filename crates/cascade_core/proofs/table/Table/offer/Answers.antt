use Rattle.std.proofs.Common.{rules}
use Rattle.cascade_core.proofs.IsTable.{offer-taken, offer-left}
use Rattle.cascade_core.proofs.table.Table.offer.Goals as goal

pub returns-then-yields : goal.returns-then-yields
returns-then-yields c =
    offer-taken c.args.self.now c.set.new.self c.args.prop c.args.later c.index-as_slice-place.result
    c.prop_place-place.result c.yields.result c.prop_place-place.ensures.place (search rules) (search rules)
    c.yields.ensures c.if-yields.true (search rules)

pub returns-else-yields : goal.returns-else-yields
returns-else-yields c =
    offer-left c.args.self.now c.args.prop c.args.later c.index-as_slice-place.result
    c.prop_place-place.result c.yields.result c.prop_place-place.ensures.place (search rules) (search rules)
    c.yields.ensures c.if-yields.false
