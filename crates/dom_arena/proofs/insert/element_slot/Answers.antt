use Rattle.std.proofs.Common.{None, Some, false, is_some, rules, slice_get, true, ◌≡◌, ◌≢◌}
use Rattle.dom_arena.specs.Slots.{name_in_slot, table_at}
use Rattle.dom_arena.specs.Stores.{Kept}
use Rattle.dom_arena.specs.Views.{kept}
use Rattle.dom_arena.specs.declared.fault.DocFault.TheVariants.{NoMemory, NoNode, NotElement}
use Rattle.dom_arena.proofs.Inserts.{an-element, no-element, no-node}
use Rattle.dom_arena.proofs.insert.element_slot.Goals as goal

no-node-no-memory : NoNode ≢ NoMemory
no-node-no-memory e = absurd (cc)

not-element-no-memory : NotElement ≢ NoMemory
not-element-no-memory e = absurd (cc)

pub returns-in_default-clause-causes : goal.returns-in_default-clause-causes
returns-in_default-clause-causes c = λ root d.
    let none : table_at c.args.store.now.table.items c.args.id ≡ None = search rules in
    (no-node-no-memory, no-node (kept c.args.store.now) root c.args.id d none)

pub returns-then-not-is_element_at-clause-causes : goal.returns-then-not-is_element_at-clause-causes
returns-then-not-is_element_at-clause-causes c = λ root d.
    let k : Kept = kept c.args.store.now in
    let at : table_at k.table c.args.id ≡ Some c.in-Some.at = search rules in
    let no : is_some (name_in_slot (slice_get k.slots c.in-Some.at)) ≡ false = search rules in
    (not-element-no-memory, no-element k root c.args.id c.in-Some.at d at no)

pub returns-clause-causes : goal.returns-clause-causes
returns-clause-causes c = λ root d.
    let k : Kept = kept c.args.store.now in
    let at : table_at k.table c.args.id ≡ Some c.in-Some.at = search rules in
    let yes : is_some (name_in_slot (slice_get k.slots c.in-Some.at)) ≡ true = search rules in
    an-element k root c.args.id c.in-Some.at d at yes
