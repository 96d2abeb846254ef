use Rattle.std.proofs.Common.{List, ap, length, rules, subst, sym, take, ◌∙◌, ◌≡◌, ◌≤◌}
use Rattle.std.specs.Vec.{with_items}
use Rattle.std.proofs.lemmas.List.{with_items_is}
use Rattle.page_model.specs.Document.{Node, children_of, id_of, ids_of}
use Rattle.dom_arena.specs.Between.{IsBetween}
use Rattle.dom_arena.specs.Cells.{IsLinked}
use Rattle.dom_arena.specs.Docs.{document_in}
use Rattle.dom_arena.specs.Slots.{cells_of}
use Rattle.dom_arena.specs.Inserting.{Inserts}
use Rattle.dom_arena.specs.Shape.{shape}
use Rattle.dom_arena.specs.Stores.{Kept}
use Rattle.dom_arena.specs.Taking.{IsDocOf}
use Rattle.dom_arena.specs.Views.{kept}
use Rattle.dom_arena.specs.Writes.{attached}
use Rattle.dom_arena.specs.declared.link.Link.{Link}
use Rattle.dom_arena.specs.declared.slot.Slot.{Slot}
use Rattle.dom_arena.proofs.Inserts.{inserts, inserts-none}
use Rattle.dom_arena.proofs.insert.insert_tree.Goals as goal

pub returns-in-Ok-clause-inserted : goal.returns-in-Ok-clause-inserted
returns-in-Ok-clause-inserted c =
    let old : Kept = kept c.args.store.now in
    let now : Kept = kept c.build.new.store in
    let prev : Link = c.place.result.0 in
    let next : Link = c.place.result.1 in
    let hung : c.attach.new.slots ≡ attached c.args.at c.in-Ok.child prev next now.slots =
    c.attach.ensures ∙ ap (λ slots. attached c.args.at c.in-Ok.child prev next slots) c.as_mut_slice.ensures.value in
    let written : (with_items c.build.new.store.slots c.attach.new.slots).items ≡ c.attach.new.slots = with_items_is c.build.new.store.slots c.attach.new.slots (search rules) in
    subst (λ (slots : List Slot). Inserts old (record now { slots = slots }) c.args.at c.args.index (shape c.args.tree.now)) (sym (written ∙ hung))
    (inserts old now (shape c.args.tree.now) c.in-Ok.child c.args.at c.args.index prev next c.in-Ok.ensures.built
    (subst (λ (slots : List Slot). (m : Node) → id_of m ≡ c.args.at → IsLinked (cells_of slots) m → c.args.index ≤ length (ids_of (children_of m))
    → IsBetween prev next c.args.index (ids_of (children_of m))) c.as_slice.ensures.value c.place.ensures))

pub returns-in-Err-clause-kept : goal.returns-in-Err-clause-kept
returns-in-Err-clause-kept c = λ root d.
    let old : Kept = kept c.args.store.now in
    let now : Kept = kept c.build.new.store in
    let cut : c.truncate.new.self.items ≡ take (length old.table) now.table = search rules in
    subst (λ (table : List Link). IsDocOf (record now { table = table }) root (document_in old root)) (sym cut)
    (inserts-none old now c.in-Err.ensures.restored root d)
