use Rattle.std.proofs.Common.{◌≡◌, option_map, subst, rules}
use Rattle.page_model.specs.Document.{next_of}
use Rattle.dom_arena.specs.Docs.{Seen}
use Rattle.dom_arena.specs.Stores.{Kept, slot_by_id}
use Rattle.dom_arena.specs.Slots.{id_at, target, next_link}
use Rattle.dom_arena.specs.Views.{kept}
use Rattle.dom_arena.proofs.Docs.{read-next}
use Rattle.dom_arena.proofs.doc.Doc.next.Goals as goal

pub returns : goal.returns
returns c =
    let k : Kept = kept c.self.inside.store in
    let found : option_map (id_at k.slots) (target (next_link (slot_by_id k c.args.id))) ≡ next_of c.args.id c.args.self.now.document.root =
    subst (λ (s : Seen). option_map (id_at k.slots) (target (next_link (slot_by_id k c.args.id))) ≡ next_of c.args.id s.document.root) c.self.view_is (read-next k c.self.inside.root c.args.id c.self.invariant) in
    search rules
