use Rattle.std.proofs.Common.{None, rules, ◌≡◌}
use Rattle.page_model.specs.Edits.{insert_causes}
use Rattle.page_model.specs.Refusals.{first_of}
use Rattle.page_model.specs.Trees as model
use Rattle.dom_arena.specs.Docs.{document_in}
use Rattle.dom_arena.specs.Faults.{ChecksBy}
use Rattle.dom_arena.specs.Shape.{shape}
use Rattle.dom_arena.specs.Stores.{Kept}
use Rattle.dom_arena.specs.Views.{kept}
use Rattle.dom_arena.proofs.Inserts.{room-there}
use Rattle.dom_arena.proofs.doc.Doc.insert.Goals as goal

pub insert_tree-requires : goal.insert_tree-requires
insert_tree-requires c =
    let k : Kept = kept c.self.inside.store in
    let root = c.self.inside.root in
    let t : model.Tree = shape c.args.tree.now in
    let checked : ChecksBy (insert_causes c.args.parent c.args.index t (document_in k root)) c.insert_slot.result = c.insert_slot.ensures.causes root c.self.invariant in
    let none : first_of (insert_causes c.args.parent c.args.index t (document_in k root)) ≡ None = search rules in
    room-there k root c.args.parent c.args.index t c.self.invariant none
