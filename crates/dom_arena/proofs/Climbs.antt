-- From a node up to the root by the links to parents.
use Rattle.std.proofs.Common.{None, Option, Some, ap, arith, inl, inr, option_and_then, option_map, refl, slice_get, subst, suc, sym, ℕ, ◌+◌, ◌==◌, ◌∙◌, ◌≡◌, ◌≤◌}
use Rattle.std.proofs.lemmas.Option.{none-some, same_Some}
use Rattle.dom_arena.proofs.Docs.{place-node, slot-node, top-alone, tree-live}
use Rattle.dom_arena.proofs.Releases.{slot-of-body}
use Rattle.dom_arena.proofs.Renamed.{height-renamed}
use Rattle.dom_arena.specs.Cells.{Place, body_of}
use Rattle.dom_arena.specs.Docs.{IsDoc}
use Rattle.dom_arena.specs.Reading.{tree_in}
use Rattle.dom_arena.specs.Slots.{IsLive, id_at, place_in, target, up_link}
use Rattle.dom_arena.specs.Stores.{Kept}
use Rattle.page_laws.proofs.Find.{among-find}
use Rattle.page_laws.proofs.Levels.{level-child, level-element, level-found, level-height, level-text, level-top}
use Rattle.page_laws.proofs.Options.{none-or-some, some-is}
use Rattle.page_laws.proofs.ParentOf.{parent-among, parent-node}
use Rattle.page_model.specs.Document.{IsAmong, Node, element, height, id_of, ids, next_of, parent_in, parent_of, prev_of, text}
use Rattle.page_model.specs.Edits.{level, level_in}
use Rattle.page_model.specs.declared.limits.TheConstants.{MAX_DEPTH}

-- the node `up` is `steps` levels above the node `at`, or is the node itself
abbrev pub Climbs : Kept → ℕ → ℕ → ℕ → Type 0
Climbs k at up steps = (x : ℕ) → IsDoc k x → IsLive k.slots at
    → IsLive k.slots up × (level at (tree_in k.slots x) ≡ option_map (λ l. l + steps) (level up (tree_in k.slots x)))

no-more : (o : Option ℕ) → o ≡ option_map (λ l. l + 0) o
no-more None = refl
no-more (Some l) = ap Some (omega arith)

pub climbs-none : (k : Kept) (at : ℕ) → Climbs k at at 0
climbs-none k at x d h = (h, no-more (level at (tree_in k.slots x)))

-- the link to the parent is what the tree says
pub up-parent : (k : Kept) (x y : ℕ) → IsDoc k x → IsLive k.slots y → target (up_link (slice_get k.slots y)) ≡ parent_of y (tree_in k.slots x)
up-parent k x y d h =
    let n : Node = tree_in k.slots x in
    let m = slot-node k x n y d.tree h in
    let s = slot-of-body k.slots y (body_of m.0) m.1.1 in
    let place : place_in s.0 ≡ record { up = parent_of y n; before = prev_of y n; after = next_of y n } =
    same_Some _ _ (sym (ap (option_map place_in) s.1) ∙ place-node k x n y d.tree (d.tree.only y h)) in
    ap (λ o. target (up_link o)) s.1 ∙ ap (λ (p : Place). p.up) place

later : (o : Option ℕ) (steps : ℕ) → option_map (λ l. l + steps) (option_map (λ l. suc l) o) ≡ option_map (λ l. l + suc steps) o
later None steps = refl
later (Some l) steps = ap Some (omega arith)

pub climbs-more : (k : Kept) (at up parent steps : ℕ) → Climbs k at up steps → target (up_link (slice_get k.slots up)) ≡ Some parent → Climbs k at parent (suc steps)
climbs-more k at up parent steps h e x d a =
    let n : Node = tree_in k.slots x in
    let is = h x d a in
    let hangs : parent_of up n ≡ Some parent = sym (up-parent k x up d is.0) ∙ e in
    let p = parent-node n up parent d.tree.distinct hangs in (
      tree-live k x n d.tree parent (subst (λ (q : ℕ). IsAmong q (ids n)) (same_Some (id_of p.0) parent (ap (option_and_then (λ (q : Node). Some (id_of q))) (sym p.1) ∙ hangs)) (parent-among up n p.0 p.1).1),
      is.1 ∙ (ap (option_map (λ l. l + steps)) (level-child n up parent d.tree.distinct hangs) ∙ later (level parent n) steps),
    )

pub no-parent : (y : ℕ) (n : Node) → parent_of y n ≡ None → parent_in y n ≡ None
no-parent y n e = elim (none-or-some (parent_in y n)) [
  | inl none ↦ none
  | inr some ↦ absurd (none-some (id_of some.0) (sym e ∙ ap (option_and_then (λ (p : Node). Some (id_of p))) some.1))
]

-- a node that hangs nowhere is the root
pub climbs-top : (k : Kept) (at up steps x : ℕ) → Climbs k at up steps → target (up_link (slice_get k.slots up)) ≡ None → IsDoc k x → IsLive k.slots at
    → level at (tree_in k.slots x) ≡ Some (suc steps)
climbs-top k at up steps x h e d a =
    let n : Node = tree_in k.slots x in
    let is = h x d a in
    let top : up ≡ id_of n = top-alone up n (d.tree.only up is.0) (no-parent up n (sym (up-parent k x up d is.0) ∙ e)) in
    is.1 ∙ ap (option_map (λ l. l + steps)) (ap (λ (i : ℕ). level i n) top ∙ level-top n) ∙ ap Some (omega arith)

pub level-one : (i l : ℕ) (n : Node) → level i n ≡ Some l → 1 ≤ l
level-one i l (element id name attributes children) e = elim (level-element (i == id) (level_in i children) l e) [
  | inl k ↦ omega (arith, k.1)
  | inr k ↦ omega (arith, k.1.2)
]
level-one i l (text id cs) e = let k = level-text (i == id) l e in omega (arith, k.1)

-- no node is as far from the root
pub climbs-last : (k : Kept) (at up steps x : ℕ) → Climbs k at up steps → MAX_DEPTH ≤ steps → IsDoc k x → IsLive k.slots at → level at (tree_in k.slots x) ≡ Some MAX_DEPTH
climbs-last k at up steps x h e d a =
    let n : Node = tree_in k.slots x in
    let is = h x d a in
    let l = some-is (level up n) (level-found up n ∙ among-find up n (d.tree.only up is.0)) in
    let deep : level at n ≡ Some (l.0 + steps) = is.1 ∙ ap (option_map (λ l. l + steps)) l.1 in
    let low : l.0 + steps ≤ height n = level-height at (l.0 + steps) n deep in
    let one : 1 ≤ l.0 = level-one up l.0 n l.1 in
    absurd (omega (arith, low, one, e, height-renamed (id_at k.slots) n, d.limits.low))
