use Rattle.std.proofs.Common.{List, ap, rules, subst, sym, ◌∙◌, ◌≡◌}
use Rattle.std.specs.Vec.{with_items}
use Rattle.std.proofs.lemmas.List.{with_items_is}
use Rattle.page_model.specs.Document.{children_of, ids_of}
use Rattle.page_model.specs.Edits.{document_after_move}
use Rattle.dom_arena.specs.Cells.{IsLinked}
use Rattle.dom_arena.specs.Docs.{document_in}
use Rattle.dom_arena.specs.Moving.{IsHung}
use Rattle.dom_arena.specs.Slots.{cells_of, id_at}
use Rattle.dom_arena.specs.Stores.{Kept}
use Rattle.dom_arena.specs.Taking.{IsDocOf, taken_out}
use Rattle.dom_arena.specs.Views.{kept}
use Rattle.dom_arena.specs.declared.slot.Slot.{Slot}
use Rattle.dom_arena.proofs.MovedTree.{doc-moved}
use Rattle.dom_arena.proofs.move_to.move_tree.Goals as goal

pub returns : goal.returns
returns c = λ root d live live_parent none.
    let k : Kept = kept c.args.store.now in
    let cut : c.take_out.new.slots ≡ taken_out c.args.at k.slots = c.take_out.ensures ∙ ap (taken_out c.args.at) c.as_mut_slice-slots.ensures.value in
    let written : (with_items c.args.store.now.slots c.hang.new.slots).items ≡ c.hang.new.slots = with_items_is c.args.store.now.slots c.hang.new.slots (search rules) in
    subst (λ (slots : List Slot). IsDocOf (record k { slots = slots }) root (document_after_move (id_at k.slots c.args.at) (id_at k.slots c.args.parent) c.args.index (document_in k root))) (sym written)
    (doc-moved k root c.args.at c.args.parent c.args.index c.hang.new.slots d live live_parent none (λ p at linked within.
    subst (λ (slots : List Slot). IsHung slots c.hang.new.slots c.args.parent c.args.at c.args.index (ids_of (children_of p))) cut
    (c.hang.ensures p at (subst (λ (slots : List Slot). IsLinked (cells_of slots) p) (sym cut) linked) within)))
