-- What is asked before a node is moved, in the slots and in the tree.
use Rattle.std.proofs.Common.{List, None, Option, Some, [], ap, arith, eq-eqb, eqb-true, false, inl, inr, is_none, is_some, length, min, nat_lt, ne_eqb, option_and_then, option_map, refl, slice_get, subst, sym, true, unwrap_or, ℕ, ◌+◌, ◌-◌, ◌==◌, ◌^◌, ◌||◌, ◌∙◌, ◌∷◌, ◌≡◌, ◌≤◌}
use Rattle.std.proofs.lemmas.Bool.{cases_Bool, eqb-false, false≢true}
use Rattle.std.proofs.lemmas.Option.{none-some, same_Some}
use Rattle.dom_arena.proofs.Builds.{map-length}
use Rattle.dom_arena.proofs.Climbs.{up-parent}
use Rattle.dom_arena.proofs.Docs.{slot-node}
use Rattle.dom_arena.proofs.Loads.{few-children}
use Rattle.dom_arena.proofs.Readings.{below-linked}
use Rattle.dom_arena.proofs.Releases.{slot-of-body}
use Rattle.dom_arena.proofs.Renamed.{height-renamed, ids-renamed}
use Rattle.dom_arena.proofs.Within.{within-node}
use Rattle.dom_arena.proofs.Written.{body-parts}
use Rattle.dom_arena.specs.Cells.{body_of}
use Rattle.dom_arena.specs.Docs.{IsDoc}
use Rattle.dom_arena.specs.Moving.{leads_to}
use Rattle.dom_arena.specs.Reading.{below, tree_in}
use Rattle.dom_arena.specs.Rename.{rename}
use Rattle.dom_arena.specs.Slots.{IsLive, cells_of, child_number, id_at, name_in, name_in_slot, own_in, target, up_link}
use Rattle.dom_arena.specs.Stores.{Kept}
use Rattle.page_laws.proofs.Find.{find-id}
use Rattle.page_laws.proofs.FirstOf.{both-false}
use Rattle.page_laws.proofs.IsAmong.{among-is_among}
use Rattle.page_laws.proofs.Levels.{find-height, level-height}
use Rattle.page_laws.proofs.ParentOf.{child_ids-found, listed-parent, parent-lists}
use Rattle.page_laws.proofs.Siblings.{list-distinct}
use Rattle.page_laws.proofs.TreeAfterMove.{without-absent}
use Rattle.page_laws.proofs.TreeAfterRemove.{left-some, list-left}
use Rattle.page_laws.specs.ChildLists.{ids_without}
use Rattle.page_model.specs.Document.{AreDistinct, IsAmong, Node, by_itself, child_ids, element, find, height, id_of, ids, name_at, name_of, parent_of, text}
use Rattle.page_model.specs.Edits.{child_count, height_at, is_within, level, tree_after_remove}
use Rattle.page_model.specs.Trees.{Text}
use Rattle.dom_arena.specs.declared.slot.Content.{Content}
use Rattle.dom_arena.specs.declared.slot.Content.TheVariants.{Chars, Element, Free}
use Rattle.page_model.specs.declared.limits.TheConstants.{MAX_DEPTH, MAX_NODES}

-- ---- whether the new parent is an element

name-itself : (m : Node) → name_of (by_itself m) ≡ name_of m
name-itself (element id name attributes children) = refl
name-itself (text id cs) = refl

own-name : (x : ℕ) (c : Content) (own : Node) → own_in x c ≡ Some own → name_in c ≡ name_of own
own-name x (Element name attributes) own e = ap name_of (same_Some _ own e)
own-name x (Chars cs) own e = ap name_of (same_Some _ own e)
own-name x (Free next) own e = absurd (none-some own e)

pub test-element : (k : Kept) (x q : ℕ) → IsDoc k x → IsLive k.slots q → is_some (name_in_slot (slice_get k.slots q)) ≡ is_some (name_at q (tree_in k.slots x))
test-element k x q d h =
    let n : Node = tree_in k.slots x in
    let m = slot-node k x n q d.tree h in
    let s = slot-of-body k.slots q (body_of m.0) m.1.1 in
    let own = (body-parts q s.0 (body_of m.0) s.2).0 in
    ap (λ o. is_some (name_in_slot o)) s.1
    ∙ (ap is_some (own-name q s.0.content (by_itself m.0) own ∙ name-itself m.0) ∙ sym (ap (λ o. is_some (option_and_then name_of o)) m.1.0))

-- ---- how many children the new parent has without the node

pub child-number : (k : Kept) (x q : ℕ) → IsDoc k x → IsLive k.slots q → child_number (slice_get k.slots q) ≡ length (child_ids q (tree_in k.slots x))
child-number k x q d h =
    let n : Node = tree_in k.slots x in
    let m = slot-node k x n q d.tree h in
    let s = slot-of-body k.slots q (body_of m.0) m.1.1 in
    let count = (body-parts q s.0 (body_of m.0) s.2).3 in
    ap child_number s.1 ∙ (count ∙ sym (ap length (child_ids-found q n m.0 m.1.0)))

length-without : (y : ℕ) (xs : List ℕ) → AreDistinct xs → IsAmong y xs → length (ids_without y xs) ≡ length xs - 1
length-without y [] d a = absurd a
length-without y (x ∷ xs) d a = elim (cases_Bool (y == x)) [
  | inl t ↦
      let rest : ids_without y xs ≡ xs = without-absent y xs (λ b. d.0 (subst (λ (z : ℕ). IsAmong z xs) (eqb-true y x t) b)) in
      let long : length (ids_without y xs) ≡ length xs = ap length rest in
      rw t (omega (arith, long))
  | inr o ↦
      let b : IsAmong y xs = elim a [
        | inl e ↦ absurd (eqb-false y x o e)
        | inr k ↦ k
      ] in
      let rest : length (ids_without y xs) ≡ length xs - 1 = length-without y xs d.1 b in
      let some : 1 ≤ length xs = some-there xs b in
      rw o (omega (arith, rest, some))
]
  where
    some-there : (zs : List ℕ) → IsAmong y zs → 1 ≤ length zs
    some-there [] c = absurd c
    some-there (z ∷ zs) c = omega arith

leads : (q : ℕ) (o : Option ℕ) → leads_to q o ≡ true → o ≡ Some q
leads q None e = absurd (false≢true e)
leads q (Some p) e = ap Some (eqb-true p q e)

leads-not : (q : ℕ) (o : Option ℕ) → leads_to q o ≡ false → o ≡ Some q → ⊥
leads-not q None e h = none-some q h
leads-not q (Some p) e h = eqb-false p q e (same_Some p q h)

-- the list of the new parent after the node is taken out
list-after : (k : Kept) (x y q : ℕ) → IsDoc k x → IsLive k.slots y → IsLive k.slots q → (y ≡ x → ⊥) → is_within y q (tree_in k.slots x) ≡ false
    → child_ids q (tree_after_remove y (tree_in k.slots x)) ≡ ids_without y (child_ids q (tree_in k.slots x))
list-after k x y q d hy hq other out =
    let n : Node = tree_in k.slots x in
    let m = slot-node k x n y d.tree hy in
    let p = slot-node k x n q d.tree hq in
    list-left y q n d.tree.distinct
    (left-some y q n m.0 d.tree.distinct m.1.0 (λ e. other (e ∙ d.tree.at)) (ap is_some p.1.0) (λ a. false≢true (sym out ∙ (within-node y q n m.0 m.1.0 ∙ among-is_among q (ids m.0) a))))

pub count-child : (k : Kept) (x y q : ℕ) → IsDoc k x → IsLive k.slots y → IsLive k.slots q → (y ≡ x → ⊥) → is_within y q (tree_in k.slots x) ≡ false
    → leads_to q (target (up_link (slice_get k.slots y))) ≡ true → child_number (slice_get k.slots q) - 1 ≡ child_count q (tree_after_remove y (tree_in k.slots x))
count-child k x y q d hy hq other out up =
    let n : Node = tree_in k.slots x in
    let hangs : parent_of y n ≡ Some q = sym (up-parent k x y d hy) ∙ leads q (target (up_link (slice_get k.slots y))) up in
    let list : length (child_ids q (tree_after_remove y n)) ≡ length (ids_without y (child_ids q n)) = ap length (list-after k x y q d hy hq other out) in
    let fewer = length-without y (child_ids q n) (list-distinct q n d.tree.distinct) (parent-lists n y q d.tree.distinct hangs) in
    omega (arith, list, fewer, child-number k x q d hq)

pub count-other : (k : Kept) (x y q : ℕ) → IsDoc k x → IsLive k.slots y → IsLive k.slots q → (y ≡ x → ⊥) → is_within y q (tree_in k.slots x) ≡ false
    → leads_to q (target (up_link (slice_get k.slots y))) ≡ false → child_number (slice_get k.slots q) ≡ child_count q (tree_after_remove y (tree_in k.slots x))
count-other k x y q d hy hq other out up =
    let n : Node = tree_in k.slots x in
    let absent : IsAmong y (child_ids q n) → ⊥ = λ a. leads-not q (target (up_link (slice_get k.slots y))) up (up-parent k x y d hy ∙ listed-parent n y q d.tree.distinct a) in
    child-number k x q d hq ∙ sym (ap length (list-after k x y q d hy hq other out ∙ without-absent y (child_ids q n) absent))

-- ---- whether the tree would reach too deep

pub test-deep : (k : Kept) (x y q above levels : ℕ) → IsDoc k x → IsLive k.slots y → level q (tree_in k.slots x) ≡ Some above
    → levels ≡ min (height (below (cells_of k.slots) MAX_NODES MAX_DEPTH y)) (2 ^ 32 - 1)
    → nat_lt MAX_DEPTH (min (above + levels) (2 ^ 32 - 1)) ≡ nat_lt MAX_DEPTH (unwrap_or (level q (tree_in k.slots x)) 0 + height_at y (tree_in k.slots x))
test-deep k x y q above levels d h at e =
    let n : Node = tree_in k.slots x in
    let m = slot-node k x n y d.tree h in
    let number : y ≡ id_of m.0 = find-id y n m.0 m.1.0 in
    let top : height n ≤ MAX_DEPTH = omega (arith, d.limits.low, height-renamed (id_at k.slots) n) in
    let long : length (ids (rename (id_at k.slots) n)) ≡ length (ids n) = ap length (ids-renamed (id_at k.slots) n) ∙ map-length (id_at k.slots) (ids n) in
    let few : length (ids n) ≤ MAX_NODES = omega (arith, long, d.limits.few) in
    let low : height m.0 ≤ MAX_DEPTH = omega (arith, top, find-height y n m.0 m.1.0) in
    let read : below (cells_of k.slots) MAX_NODES MAX_DEPTH y ≡ m.0 =
    ap (below (cells_of k.slots) MAX_NODES MAX_DEPTH) number
    ∙ below-linked (cells_of k.slots) n MAX_NODES MAX_DEPTH m.0 d.tree.distinct d.tree.linked (few-children n MAX_NODES few) (subst (λ (z : ℕ). find z n ≡ Some m.0) number m.1.0) low in
    let high : height (below (cells_of k.slots) MAX_NODES MAX_DEPTH y) ≡ height m.0 = ap height read in
    let levels_are : levels ≡ height m.0 = omega (arith, e, high, low) in
    let under : above ≤ height n = level-height q above n at in
    let sum : min (above + levels) (2 ^ 32 - 1) ≡ above + height m.0 = omega (arith, levels_are, under, top, low) in
    let above_is : unwrap_or (level q n) 0 ≡ above = ap (λ o. unwrap_or o 0) at in
    let height_is : height_at y n ≡ height m.0 = ap (λ o. unwrap_or (option_map height o) 0) m.1.0 in
    ap (nat_lt MAX_DEPTH) (sum ∙ sym (λ j. above_is j + height_is j))

-- ---- as the check of a move wants them

-- both nodes are there
pub both-there : (k : Kept) (x y q : ℕ) → IsDoc k x → IsLive k.slots y → IsLive k.slots q → (is_none (find y (tree_in k.slots x)) || is_none (find q (tree_in k.slots x))) ≡ false
both-there k x y q d hy hq =
    let n : Node = tree_in k.slots x in
    both-false (is_none (find y n)) (is_none (find q n)) (ap is_none (slot-node k x n y d.tree hy).1.0) (ap is_none (slot-node k x n q d.tree hq).1.0)

pub is-top : (k : Kept) (x y : ℕ) → IsDoc k x → y ≡ x → (y == id_of (tree_in k.slots x)) ≡ true
is-top k x y d e = eq-eqb y (id_of (tree_in k.slots x)) (e ∙ sym d.tree.at)

pub not-top : (k : Kept) (x y : ℕ) → IsDoc k x → (y ≡ x → ⊥) → (y == id_of (tree_in k.slots x)) ≡ false
not-top k x y d other = ne_eqb y (id_of (tree_in k.slots x)) (λ e. other (e ∙ d.tree.at))

none-is : (o : Option Text) → is_some o ≡ false → is_none o ≡ true
none-is None e = refl
none-is (Some t) e = absurd (false≢true (sym e))

some-is-not : (o : Option Text) → is_some o ≡ true → is_none o ≡ false
some-is-not None e = absurd (false≢true e)
some-is-not (Some t) e = refl

pub is-plain : (k : Kept) (x q : ℕ) → IsDoc k x → IsLive k.slots q → is_some (name_in_slot (slice_get k.slots q)) ≡ false → is_none (name_at q (tree_in k.slots x)) ≡ true
is-plain k x q d h e = none-is (name_at q (tree_in k.slots x)) (sym (test-element k x q d h) ∙ e)

pub not-plain : (k : Kept) (x q : ℕ) → IsDoc k x → IsLive k.slots q → is_some (name_in_slot (slice_get k.slots q)) ≡ true → is_none (name_at q (tree_in k.slots x)) ≡ false
not-plain k x q d h e = some-is-not (name_at q (tree_in k.slots x)) (sym (test-element k x q d h) ∙ e)
