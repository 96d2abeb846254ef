use Rattle.std.proofs.Common.{◌∙◌, sym}
use Rattle.std.specs.Str.{chars}
use Rattle.custom_props.proofs.PlacesInOrder.{order-equal-less, order-greater-less}
use Rattle.cascade_core.proofs.customs.is_less.Goals as goal

pub returns-in-Equal : goal.returns-in-Equal
returns-in-Equal c = order-equal-less (chars c.args.a.now) (chars c.args.b.now) (sym c.in-Equal.is ∙ c.compare.ensures)

pub returns-in-Greater : goal.returns-in-Greater
returns-in-Greater c =
    order-greater-less (chars c.args.a.now) (chars c.args.b.now) (sym c.in-Greater.is ∙ c.compare.ensures)
