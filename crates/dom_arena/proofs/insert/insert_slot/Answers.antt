use Rattle.std.proofs.Common.{Bool, None, Ok, Err, Result, Some, [], arith, le-ltb, lt-ltb, nat_lt, refl, rules, slice_get, subst, true, false, ◌++◌, ◌∷◌, ◌≡◌, ◌≢◌, ◌<◌, ◌≤◌, ℕ}
use Rattle.page_model.specs.Document.{Document}
use Rattle.page_model.specs.Edits.{child_count, taken_below, tree_causes}
use Rattle.page_model.specs.Refusals.{Causes, first_of}
use Rattle.page_model.specs.Trees as model
use Rattle.page_model.specs.declared.cause.Cause.TheVariants.{BadIndex}
use Rattle.dom_arena.specs.Docs.{document_in}
use Rattle.dom_arena.specs.Faults.{ChecksBy}
use Rattle.dom_arena.specs.Inserting.{element_causes}
use Rattle.dom_arena.specs.Measures.{taken_of}
use Rattle.dom_arena.specs.Shape.{shape}
use Rattle.dom_arena.specs.Slots.{child_number, table_at}
use Rattle.dom_arena.specs.Stores.{Kept}
use Rattle.dom_arena.specs.Views.{kept}
use Rattle.dom_arena.specs.declared.fault.DocFault.{DocFault}
use Rattle.dom_arena.specs.declared.fault.DocFault.TheVariants as fault
use Rattle.dom_arena.proofs.Inserts.{count-there}
use Rattle.dom_arena.proofs.Refused.{checks-fault, checks-second}
use Rattle.dom_arena.proofs.insert.insert_slot.Goals as goal

pub returns-in_err-at-clause-causes : goal.returns-in_err-at-clause-causes
returns-in_err-at-clause-causes c = λ root d.
    let k : Kept = kept c.args.store.now in
    let doc : Document = document_in k root in
    let t : model.Tree = shape c.args.tree.now in
    let first : ChecksBy (element_causes c.args.parent doc) c.element_slot.result = c.element_slot.ensures.causes root d in
    let no : ChecksBy (element_causes c.args.parent doc) c.from_residual.result = search rules in
    checks-fault (element_causes c.args.parent doc) ((nat_lt (child_count c.args.parent doc.root) c.args.index, BadIndex) ∷ tree_causes (taken_below c.args.parent doc) t)
    c.from_residual.result c.from_residual.ensures.0 no

bad-index-no-memory : fault.BadIndex ≢ fault.NoMemory
bad-index-no-memory e = absurd (cc)

-- an index past the children
past : (X : Type 0) (n i : ℕ) (xs ys : Causes) → first_of xs ≡ None → n < i → ChecksBy {X = X} (xs ++ (nat_lt n i, BadIndex) ∷ ys) (Err fault.BadIndex)
past X n i xs ys none h = checks-second {X = X} xs ((nat_lt n i, BadIndex) ∷ ys) (Err fault.BadIndex) none (bad-index-no-memory, over (nat_lt n i) (lt-ltb n i h))
  where
    over : (b : Bool) → b ≡ true → first_of ((b, BadIndex) ∷ ys) ≡ Some BadIndex
    over true e = refl
    over false e = absurd (cc)

-- an index of a child, or behind all
within : {X : Type 0} (n i : ℕ) (xs ys : Causes) (r : Result X DocFault) → first_of xs ≡ None → i ≤ n → ChecksBy ys r → ChecksBy (xs ++ (nat_lt n i, BadIndex) ∷ ys) r
within n i xs ys r none h k =
    checks-second xs ((nat_lt n i, BadIndex) ∷ ys) r none (checks-second ((nat_lt n i, BadIndex) ∷ []) ys r (under (nat_lt n i) (le-ltb n i h)) k)
  where
    under : (b : Bool) → b ≡ false → first_of ((b, BadIndex) ∷ []) ≡ None
    under false e = refl
    under true e = absurd (cc)

pub returns-then-index-count-clause-causes : goal.returns-then-index-count-clause-causes
returns-then-index-count-clause-causes c = λ root d.
    let k : Kept = kept c.args.store.now in
    let doc : Document = document_in k root in
    let at : table_at k.table c.args.parent ≡ Some c.in_ok-at.at = search rules in
    let first : ChecksBy (element_causes c.args.parent doc) c.element_slot.result = c.element_slot.ensures.causes root d in
    let none : first_of (element_causes c.args.parent doc) ≡ None = search rules in
    let count : c.children_of-count.result.1 ≡ child_number (slice_get k.slots c.in_ok-at.at) = search rules in
    past ℕ (child_count c.args.parent doc.root) c.args.index (element_causes c.args.parent doc) (tree_causes (taken_below c.args.parent doc) (shape c.args.tree.now)) none
    (omega (arith, count, count-there k root c.args.parent c.in_ok-at.at d at, c.if-index-count.true))

pub returns-in_err-check-clause-causes : goal.returns-in_err-check-clause-causes
returns-in_err-check-clause-causes c = λ root d.
    let k : Kept = kept c.args.store.now in
    let doc : Document = document_in k root in
    let t : model.Tree = shape c.args.tree.now in
    let at : table_at k.table c.args.parent ≡ Some c.in_ok-at.at = search rules in
    let first : ChecksBy (element_causes c.args.parent doc) c.element_slot.result = c.element_slot.ensures.causes root d in
    let none : first_of (element_causes c.args.parent doc) ≡ None = search rules in
    let count : c.children_of-count.result.1 ≡ child_number (slice_get k.slots c.in_ok-at.at) = search rules in
    let no : ChecksBy (tree_causes (taken_of c.taken_at.result) t) c.from_residual-in_err-check.result = search rules in
    within (child_count c.args.parent doc.root) c.args.index (element_causes c.args.parent doc) (tree_causes (taken_below c.args.parent doc) t) c.from_residual-in_err-check.result none
    (omega (arith, count, count-there k root c.args.parent c.in_ok-at.at d at, c.if-index-count.false))
    (subst (λ taken. ChecksBy (tree_causes taken t) c.from_residual-in_err-check.result) (c.taken_at.ensures root c.args.parent d at) no)

pub returns-clause-causes : goal.returns-clause-causes
returns-clause-causes c = λ root d.
    let k : Kept = kept c.args.store.now in
    let doc : Document = document_in k root in
    let t : model.Tree = shape c.args.tree.now in
    let at : table_at k.table c.args.parent ≡ Some c.in_ok-at.at = search rules in
    let first : ChecksBy (element_causes c.args.parent doc) c.element_slot.result = c.element_slot.ensures.causes root d in
    let none : first_of (element_causes c.args.parent doc) ≡ None = search rules in
    let count : c.children_of-count.result.1 ≡ child_number (slice_get k.slots c.in_ok-at.at) = search rules in
    let yes : first_of (tree_causes (taken_of c.taken_at.result) t) ≡ None = search rules in
    within (child_count c.args.parent doc.root) c.args.index (element_causes c.args.parent doc) (tree_causes (taken_below c.args.parent doc) t) (Ok c.in_ok-at.at) none
    (omega (arith, count, count-there k root c.args.parent c.in_ok-at.at d at, c.if-index-count.false))
    (subst (λ taken. first_of (tree_causes taken t) ≡ None) (c.taken_at.ensures root c.args.parent d at) yes)
