use Rattle.std.proofs.Common.{◌≡◌, option_map, subst, rules}
use Rattle.page_model.specs.Document.{prev_of}
use Rattle.dom_arena.specs.Docs.{Seen}
use Rattle.dom_arena.specs.Stores.{Kept, slot_by_id}
use Rattle.dom_arena.specs.Slots.{id_at, target, prev_link}
use Rattle.dom_arena.specs.Views.{kept}
use Rattle.dom_arena.proofs.Docs.{read-prev}
use Rattle.dom_arena.proofs.doc.Doc.prev.Goals as goal

pub returns : goal.returns
returns c =
    let k : Kept = kept c.self.inside.store in
    let found : option_map (id_at k.slots) (target (prev_link (slot_by_id k c.args.id))) ≡ prev_of c.args.id c.args.self.now.document.root =
    subst (λ (s : Seen). option_map (id_at k.slots) (target (prev_link (slot_by_id k c.args.id))) ≡ prev_of c.args.id s.document.root) c.self.view_is (read-prev k c.self.inside.root c.args.id c.self.invariant) in
    search rules
