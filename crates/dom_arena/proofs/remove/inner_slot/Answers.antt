use Rattle.std.proofs.Common.{◌≡◌, None, Some, rules}
use Rattle.dom_arena.specs.Slots.{table_at}
use Rattle.dom_arena.specs.Views.{kept}
use Rattle.dom_arena.proofs.Removed.{remove-none, remove-root, remove-inner}
use Rattle.dom_arena.proofs.remove.inner_slot.Goals as goal

pub returns-in_default-clause-causes : goal.returns-in_default-clause-causes
returns-in_default-clause-causes c =
    let none : table_at c.args.store.now.table.items c.args.id ≡ None = search rules in
    ((λ e. cc), remove-none (kept c.args.store.now) c.args.root c.args.id c.requires none)

pub returns-then-at-root-clause-causes : goal.returns-then-at-root-clause-causes
returns-then-at-root-clause-causes c =
    let some : table_at c.args.store.now.table.items c.args.id ≡ Some c.in-Some.at = search rules in
    ((λ e. cc), remove-root (kept c.args.store.now) c.args.root c.args.id c.in-Some.at c.requires some c.if-at-root.true)

pub returns-clause-causes : goal.returns-clause-causes
returns-clause-causes c =
    let some : table_at c.args.store.now.table.items c.args.id ≡ Some c.in-Some.at = search rules in
    remove-inner (kept c.args.store.now) c.args.root c.args.id c.in-Some.at c.requires some c.if-at-root.false
