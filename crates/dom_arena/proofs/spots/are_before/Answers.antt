use Rattle.std.proofs.Common.{Greater, arith, length, rules, suc, ◌-◌, ◌≡◌}
use Rattle.std.specs.Str.{chars}
use Rattle.dom_arena.specs.Spots.{order_of}
use Rattle.dom_arena.proofs.BehindAll.{spot-behind}
use Rattle.dom_arena.proofs.spots.are_before.Goals as goal

pub returns-in-Greater : goal.returns-in-Greater
returns-in-Greater c = λ _.
    let more : order_of (chars c.args.name.now) c.index-attributes-count.result.0 ≡ Greater = search rules in
    let last : suc (length c.args.attributes.now - 1) ≡ length c.args.attributes.now = omega (arith, c.if-count-eq0.false) in
    spot-behind (chars c.args.name.now) c.args.attributes.now (length c.args.attributes.now - 1) c.index-attributes-count.result last c.index-attributes-count.is c.requires more
