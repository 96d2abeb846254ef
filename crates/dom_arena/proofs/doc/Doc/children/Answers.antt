use Rattle.std.proofs.Common.{Some, rules, subst, ◌≡◌}
use Rattle.page_model.specs.Document.{Node, child_ids, children_of, find}
use Rattle.dom_arena.specs.Docs.{Seen}
use Rattle.dom_arena.specs.Found.{AreFound}
use Rattle.dom_arena.specs.Reading.{ids_from}
use Rattle.dom_arena.specs.Slots.{child_number, first_link, target}
use Rattle.dom_arena.specs.Stores.{Kept, slot_by_id}
use Rattle.dom_arena.specs.Views.{kept}
use Rattle.dom_arena.proofs.ChildLists.{children-found, read-children}
use Rattle.dom_arena.proofs.doc.Doc.children.Goals as goal

pub returns-clause-children : goal.returns-clause-children
returns-clause-children c =
    let k : Kept = kept c.self.inside.store in
    let found : ids_from k.slots (child_number (slot_by_id k c.args.id)) (target (first_link (slot_by_id k c.args.id))) ≡ child_ids c.args.id c.args.self.now.document.root =
    subst (λ (s : Seen). ids_from k.slots (child_number (slot_by_id k c.args.id)) (target (first_link (slot_by_id k c.args.id))) ≡ child_ids c.args.id s.document.root) c.self.view_is
    (read-children k c.self.inside.root c.args.id c.self.invariant) in
    search rules

pub returns-clause-found : goal.returns-clause-found
returns-clause-found c =
    subst (λ (s : Seen). (n : Node) → find c.args.id s.document.root ≡ Some n → AreFound s.document.root (children_of n)) c.self.view_is
    (λ n f. children-found (kept c.self.inside.store) c.self.inside.root c.args.id n c.self.invariant f)
