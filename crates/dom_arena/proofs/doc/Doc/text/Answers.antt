use Rattle.std.proofs.Common.{◌≡◌, option_and_then, subst, rules}
use Rattle.page_model.specs.Document.{text_at}
use Rattle.dom_arena.specs.Docs.{Seen}
use Rattle.dom_arena.specs.Stores.{Kept, slot_by_id}
use Rattle.dom_arena.specs.Slots.{text_in}
use Rattle.dom_arena.specs.declared.slot.Slot.{Slot}
use Rattle.dom_arena.specs.Views.{kept}
use Rattle.dom_arena.proofs.Docs.{read-text}
use Rattle.dom_arena.proofs.doc.Doc.text.Goals as goal

pub returns : goal.returns
returns c =
    let k : Kept = kept c.self.inside.store in
    let found : option_and_then (λ (s : Slot). text_in s.content) (slot_by_id k c.args.id) ≡ text_at c.args.id c.args.self.now.document.root =
    subst (λ (s : Seen). option_and_then (λ (s : Slot). text_in s.content) (slot_by_id k c.args.id) ≡ text_at c.args.id s.document.root) c.self.view_is (read-text k c.self.inside.root c.args.id c.self.invariant) in
    search rules
