use Rattle.std.proofs.Common.{◌≡◌, ap, subst, rules}
use Rattle.std.specs.Str.{chars}
use Rattle.page_model.specs.Attributes.{value_of}
use Rattle.page_model.specs.Document.{attributes_at, value_at}
use Rattle.dom_arena.specs.Docs.{Seen}
use Rattle.dom_arena.specs.Slots.{attributes_in_slot}
use Rattle.dom_arena.specs.Stores.{Kept, slot_by_id}
use Rattle.dom_arena.specs.Views.{kept}
use Rattle.dom_arena.proofs.Docs.{read-attributes}
use Rattle.dom_arena.proofs.doc.Doc.attr.Goals as goal

pub returns : goal.returns
returns c =
    let k : Kept = kept c.self.inside.store in
    let all : attributes_in_slot (slot_by_id k c.args.id) ≡ attributes_at c.args.id c.args.self.now.document.root =
    subst (λ (s : Seen). attributes_in_slot (slot_by_id k c.args.id) ≡ attributes_at c.args.id s.document.root) c.self.view_is (read-attributes k c.self.inside.root c.args.id c.self.invariant) in
    let found : value_of (chars c.args.name.now) (attributes_in_slot (slot_by_id k c.args.id)) ≡ value_at (chars c.args.name.now) c.args.id c.args.self.now.document.root =
    ap (value_of (chars c.args.name.now)) all in
    search rules
