use Rattle.std.proofs.Common.{rules, ◌≡◌, List, subst}
use Rattle.std.specs.Prelude.{OnOk}
use Rattle.std.specs.Str.{chars}
use Rattle.page_model.specs.Attributes.{with_attribute}
use Rattle.page_model.specs.Trees.{Attribute}
use Rattle.dom_arena.specs.Spots.{spot_of}
use Rattle.dom_arena.proofs.AttributeSpots.{order-put, set-put}
use Rattle.dom_arena.proofs.attrs.Attrs.set.Goals as goal

pub invariant_of-self : goal.invariant_of-self
invariant_of-self c =
    let xs : List Attribute = c.self.inside.list.items in
    let spot : c.spot_of-spot.result ≡ spot_of (chars c.args.name.now) xs = search rules in
    order-put c.put.result xs c.put.new.attributes.items (chars c.args.name.now) (chars c.args.value.now) c.self.invariant
    (set-put c.put.result xs c.put.new.attributes.items c.spot_of-spot.result (chars c.args.name.now) (chars c.args.value.now) c.in_ok-name_text.name_text c.in_ok-value_text.value_text spot (search rules) (search rules) c.put.ensures.put)
    c.put.ensures.kept

pub returns-clause-set : goal.returns-clause-set
returns-clause-set c =
    let xs : List Attribute = c.self.inside.list.items in
    let spot : c.spot_of-spot.result ≡ spot_of (chars c.args.name.now) xs = search rules in
    subst (λ (ys : List Attribute). OnOk c.put.result (c.put.new.attributes.items ≡ with_attribute (chars c.args.name.now) (chars c.args.value.now) ys)) c.self.view_is
    (set-put c.put.result xs c.put.new.attributes.items c.spot_of-spot.result (chars c.args.name.now) (chars c.args.value.now) c.in_ok-name_text.name_text c.in_ok-value_text.value_text spot (search rules) (search rules) c.put.ensures.put)
