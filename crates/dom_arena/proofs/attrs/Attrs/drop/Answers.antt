use Rattle.std.proofs.Common.{rules, ◌≡◌, ◌∙◌, List, ap}
use Rattle.std.specs.Str.{chars}
use Rattle.page_laws.proofs.AttributesInOrder.{order-without}
use Rattle.page_model.specs.Attributes.{are_in_order, without_attribute}
use Rattle.page_model.specs.Trees.{Attribute}
use Rattle.dom_arena.specs.Spots.{attributes_without, spot_of}
use Rattle.dom_arena.proofs.AttributeSpots.{spot-without}
use Rattle.dom_arena.proofs.attrs.Attrs.drop.Goals as goal

pub invariant_of-self : goal.invariant_of-self
invariant_of-self c =
    let xs : List Attribute = c.self.inside.list.items in
    let name : List _ = chars c.args.name.now in
    let spot : c.spot_of-spot.result ≡ spot_of name xs = search rules in
    let out : c.take.new.attributes.items ≡ without_attribute name xs = c.take.ensures ∙ (ap (λ s. attributes_without s xs) spot ∙ spot-without name xs c.self.invariant) in
    ap are_in_order out ∙ order-without name xs c.self.invariant

pub returns : goal.returns
returns c =
    let xs : List Attribute = c.self.inside.list.items in
    let name : List _ = chars c.args.name.now in
    let spot : c.spot_of-spot.result ≡ spot_of name xs = search rules in
    let out : c.take.new.attributes.items ≡ without_attribute name xs = c.take.ensures ∙ (ap (λ s. attributes_without s xs) spot ∙ spot-without name xs c.self.invariant) in
    out ∙ ap (without_attribute name) c.self.view_is
