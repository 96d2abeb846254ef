-- What is kept stays in order.
use Rattle.std.proofs.Common.{List, None, Option, Some, [], ap, arith, eqb-true, inl, inr, is_some, length, max, option_and_then, option_map, refl, slice_get, slice_set, subst, suc, sym, true, unwrap_or, ℕ, ◌++◌, ◌+◌, ◌<◌, ◌==◌, ◌∙◌, ◌∷◌, ◌≡◌, ◌≤◌, ◌⊎◌}
use Rattle.std.proofs.lemmas.Bool.{cases_Bool, cases_lt, eqb-false, false≢true}
use Rattle.std.proofs.lemmas.Option.{none-some, same_Some}
use Rattle.dom_arena.proofs.Hooked.{Relinked, target-to}
use Rattle.dom_arena.proofs.Lists.{get-append, get-end, get-past, get-set-other, get-set-same, get-some, get-within, length-push, length-slice_set, push-cases}
use Rattle.dom_arena.specs.Cells.{Body}
use Rattle.dom_arena.specs.Rename.{IsAlone}
use Rattle.dom_arena.specs.Slots.{IsLive, body_at, body_in, content_at, id_at, is_node, own_in, table_at, target}
use Rattle.dom_arena.specs.Stores.{FreeChain, IsStore, Kept, free_behind, freed, kept_with, kept_without, leaf, link_to, next_free, no_link, slots_with, slots_without, spot}
use Rattle.page_laws.proofs.Options.{none-or-some}
use Rattle.page_model.specs.Document.{AreDistinct, IsAmong}
use Rattle.page_model.specs.Trees.{size}
use Rattle.page_model.specs.declared.limits.TheConstants.{MAX_NODES}
use Rattle.dom_arena.specs.declared.link.Link.{Link}
use Rattle.dom_arena.specs.declared.slot.Content.{Content}
use Rattle.dom_arena.specs.declared.slot.Content.TheVariants.{Chars, Element, Free}
use Rattle.dom_arena.specs.declared.slot.Slot.{Slot}

live-content : (x : ℕ) (c : Content) (s : Slot) → is_some {T = Body} (option_map (λ own. record { own = own; first = target s.first; last = target s.last; count = s.children; size = s.size }) (own_in x c)) ≡ is_node (Some c)
live-content x (Element name attributes) s = refl
live-content x (Chars cs) s = refl
live-content x (Free next) s = refl

live-slot : (x : ℕ) (o : Option Slot) → is_some (option_and_then (body_in x) o) ≡ is_node (option_map (λ (s : Slot). s.content) o)
live-slot x None = refl
live-slot x (Some s) = live-content x s.content s

pub live-by-content : (slots : List Slot) (x : ℕ) → is_some (body_at slots x) ≡ is_node (content_at slots x)
live-by-content slots x = live-slot x (slice_get slots x)

pub live-same : (old new : List Slot) (x : ℕ) → content_at new x ≡ content_at old x → IsLive old x → IsLive new x
live-same old new x e h = live-by-content new x ∙ (ap is_node e ∙ (sym (live-by-content old x) ∙ h))

pub live-slot-same : (old new : List Slot) (x : ℕ) → slice_get new x ≡ slice_get old x → IsLive old x → IsLive new x
live-slot-same old new x e h = live-same old new x (ap (option_map (λ (s : Slot). s.content)) e) h

pub live-within : (slots : List Slot) (x : ℕ) → IsLive slots x → x < length slots
live-within slots x h = elim (none-or-some (slice_get slots x)) [
  | inl none ↦ absurd (false≢true (sym (ap (λ o. is_some (option_and_then (body_in x) o)) none) ∙ h))
  | inr some ↦ get-within slots x some.0 some.1
]

pub free-dead : (slots : List Slot) (x : ℕ) (next : Link) → content_at slots x ≡ Some (Free next) → IsLive slots x → ⊥
free-dead slots x next e h = false≢true (sym (ap is_node e) ∙ (sym (live-by-content slots x) ∙ h))

pub chain-dead : (slots : List Slot) (o : Option ℕ) (xs : List ℕ) (x : ℕ) → FreeChain slots o xs → IsAmong x xs → IsLive slots x → ⊥
chain-dead slots o [] x c a h = a
chain-dead slots o (y ∷ ys) x c (inl e) h = free-dead slots y c.1.0 c.1.1 (subst (IsLive slots) e h)
chain-dead slots o (y ∷ ys) x c (inr a) h = chain-dead slots (target c.1.0) ys x c.1.2 a h

chain-within : (slots : List Slot) (o : Option ℕ) (xs : List ℕ) (x : ℕ) → FreeChain slots o xs → IsAmong x xs → x < length slots
chain-within slots o [] x c a = absurd a
chain-within slots o (y ∷ ys) x c (inl e) = elim (none-or-some (slice_get slots y)) [
  | inl none ↦ absurd (none-some (Free c.1.0) (sym (ap (option_map (λ (s : Slot). s.content)) none) ∙ c.1.1))
  | inr some ↦ let w : y < length slots = get-within slots y some.0 some.1 in omega (arith, w, e)
]
chain-within slots o (y ∷ ys) x c (inr a) = chain-within slots (target c.1.0) ys x c.1.2 a

pub chain-same-contents : (old new : List Slot) (o : Option ℕ) (xs : List ℕ) → ((x : ℕ) → IsAmong x xs → content_at new x ≡ content_at old x) → FreeChain old o xs → FreeChain new o xs
chain-same-contents old new o [] h c = c
chain-same-contents old new o (x ∷ xs) h c = (c.0, (c.1.0, h x (inl refl) ∙ c.1.1, chain-same-contents old new (target c.1.0) xs (λ y a. h y (inr a)) c.1.2))

-- ---- links are written

pub store-relinked : (k : Kept) (slots : List Slot) → Relinked k.slots slots → IsStore k → IsStore (record k { slots = slots })
store-relinked k slots r s =
    let to : (x : ℕ) → IsLive k.slots x → IsLive slots x = λ x h. live-same k.slots slots x (r.contents x) h in
    let from : (x : ℕ) → IsLive slots x → IsLive k.slots x = λ x h. live-same slots k.slots x (sym (r.contents x)) h in
    record {
      free = s.free;
      chain = chain-same-contents k.slots slots (target k.free) s.free (λ x a. r.contents x) s.chain;
      once = s.once;
      count = s.count ∙ sym r.slots;
      all = λ x h. elim (s.all x (omega (arith, h, r.slots))) [
        | inl l ↦ inl (to x l)
        | inr a ↦ inr a
      ];
      listed = λ x h. ap (table_at k.table) (r.ids x) ∙ s.listed x (from x h);
      found = λ i x e. let f = s.found i x e in (to x f.0, r.ids x ∙ f.1);
      few = omega (arith, s.few, r.slots);
    }

-- ---- what is alone

pub alone-live : (k : Kept) (x : ℕ) (ys : List ℕ) → IsStore k → IsLive k.slots x → ((y : ℕ) → IsAmong y ys → IsLive k.slots y) → IsAlone (id_at k.slots) x ys
alone-live k x ys s h all = λ y a e.
    same_Some y x (sym (s.listed y (all y a)) ∙ (ap (table_at k.table) e ∙ s.listed x h))

pub id-given : (k : Kept) (x : ℕ) → IsStore k → IsLive k.slots x → id_at k.slots x < length k.table
id-given k x s h = elim (none-or-some (slice_get k.table (id_at k.slots x))) [
  | inl none ↦ absurd (none-some x (sym (ap (option_and_then target) none) ∙ s.listed x h))
  | inr some ↦ get-within k.table (id_at k.slots x) some.0 some.1
]

pub live-small : (k : Kept) (x : ℕ) → IsStore k → IsLive k.slots x → x < 4294967295
live-small k x s h = let w : x < length k.slots = live-within k.slots x h in omega (arith, w, s.few)

-- ---- a new node

spot-is : (k : Kept) → IsStore k → (spot k.slots (target k.free) < suc (length k.slots)) × (IsLive k.slots (spot k.slots (target k.free)) → ⊥)
spot-is k s = by-free (target k.free) s.free s.chain
  where
    by-free : (o : Option ℕ) (xs : List ℕ) → FreeChain k.slots o xs → (spot k.slots o < suc (length k.slots)) × (IsLive k.slots (spot k.slots o) → ⊥)
    by-free None xs c = (omega arith, λ h. let w = live-within k.slots (length k.slots) h in omega (arith, w))
    by-free (Some x) [] c = absurd (none-some x (sym c))
    by-free (Some x) (y ∷ ys) c =
        let same : x ≡ y = same_Some x y c.0 in
        let w : x < length k.slots = chain-within k.slots (Some x) (y ∷ ys) x c (inl same) in
        (omega (arith, w), chain-dead k.slots (Some x) (y ∷ ys) x c (inl same))

pub spot-dead : (k : Kept) → IsStore k → IsLive k.slots (spot k.slots (target k.free)) → ⊥
spot-dead k s = (spot-is k s).1

-- the new slot, and the others
pub get-spot : (k : Kept) (l : Slot) → IsStore k → slice_get (slots_with k.slots (target k.free) l) (spot k.slots (target k.free)) ≡ Some l
get-spot k l s = by-free (target k.free) s.free s.chain
  where
    by-free : (o : Option ℕ) (xs : List ℕ) → FreeChain k.slots o xs → slice_get (slots_with k.slots o l) (spot k.slots o) ≡ Some l
    by-free None xs c = get-end k.slots l
    by-free (Some x) [] c = absurd (none-some x (sym c))
    by-free (Some x) (y ∷ ys) c = get-set-same k.slots x l (chain-within k.slots (Some x) (y ∷ ys) x c (inl (same_Some x y c.0)))

get-others : (slots : List Slot) (o : Option ℕ) (l : Slot) (x : ℕ) → (x ≡ spot slots o → ⊥) → slice_get (slots_with slots o l) x ≡ slice_get slots x
get-others slots None l x h = elim (cases_lt x (length slots)) [
  | inl w ↦ get-append slots (l ∷ []) x w
  | inr w ↦
      let past : length (slots ++ l ∷ []) ≤ x = omega (arith, w, h, length-push slots l) in
      get-past (slots ++ l ∷ []) x past ∙ sym (get-past slots x w)
]
get-others slots (Some y) l x h = get-set-other slots y x l h

pub get-spot-other : (k : Kept) (l : Slot) (x : ℕ) → (x ≡ spot k.slots (target k.free) → ⊥) → slice_get (slots_with k.slots (target k.free) l) x ≡ slice_get k.slots x
get-spot-other k l x h = get-others k.slots (target k.free) l x h

-- the length, the free list and its count after a new node
abbrev pub FreeAfter : Kept → Slot → Type 0
FreeAfter k l =
    (xs : List ℕ) × FreeChain (slots_with k.slots (target k.free) l) (target (free_behind k.slots k.free (target k.free))) xs × AreDistinct xs
    × (length xs + (k.live + 1) ≡ length (slots_with k.slots (target k.free) l))
    × ((x : ℕ) → IsAmong x xs → x ≡ spot k.slots (target k.free) → ⊥)
    × ((x : ℕ) → x < length (slots_with k.slots (target k.free) l) → (x ≡ spot k.slots (target k.free) → ⊥) → IsLive k.slots x ⊎ IsAmong x xs)
    × (length (slots_with k.slots (target k.free) l) ≤ max (length k.slots) (k.live + 1))

free-with : (k : Kept) (l : Slot) → IsStore k → FreeAfter k l
free-with k l s = by-free k.free (target k.free) s.free refl s.chain s.once s.count s.all
  where
    by-free : (free : Link) (o : Option ℕ) (xs : List ℕ) → target free ≡ o → FreeChain k.slots o xs → AreDistinct xs → length xs + k.live ≡ length k.slots
        → ((x : ℕ) → x < length k.slots → IsLive k.slots x ⊎ IsAmong x xs)
        → (xs : List ℕ) × FreeChain (slots_with k.slots o l) (target (free_behind k.slots free o)) xs × AreDistinct xs
        × (length xs + (k.live + 1) ≡ length (slots_with k.slots o l)) × ((x : ℕ) → IsAmong x xs → x ≡ spot k.slots o → ⊥)
        × ((x : ℕ) → x < length (slots_with k.slots o l) → (x ≡ spot k.slots o → ⊥) → IsLive k.slots x ⊎ IsAmong x xs)
        × (length (slots_with k.slots o l) ≤ max (length k.slots) (k.live + 1))
    by-free free None [] e c d n all = (
      [],
      e,
      tt,
      omega (arith, n, length-push k.slots l),
      (λ x a q. a),
      (λ x w q. elim (cases_lt x (length k.slots)) [
        | inl v ↦ all x v
        | inr v ↦ absurd (q (omega (arith, v, w, length-push k.slots l)))
      ]),
      omega (arith, n, length-push k.slots l),
    )
    by-free free None (y ∷ ys) e c d n all = absurd (none-some y c.0)
    by-free free (Some x) [] e c d n all = absurd (none-some x (sym c))
    by-free free (Some x) (y ∷ ys) e c d n all =
        let same : x ≡ y = same_Some x y c.0 in
        let behind : next_free (content_at k.slots x) ≡ c.1.0 = ap next_free (ap (content_at k.slots) same ∙ c.1.1) in
        let len : length (slice_set k.slots x l) ≡ length k.slots = length-slice_set k.slots x l in
        let apart : (z : ℕ) → IsAmong z ys → z ≡ x → ⊥ = λ z a q. d.0 (subst (λ (w : ℕ). IsAmong w ys) (q ∙ same) a) in
        let chain : FreeChain (slice_set k.slots x l) (target c.1.0) ys =
        chain-same-contents k.slots (slice_set k.slots x l) (target c.1.0) ys (λ z a. ap (option_map (λ (s : Slot). s.content)) (get-set-other k.slots x z l (apart z a))) c.1.2 in (
          ys,
          subst (λ (f : Link). FreeChain (slice_set k.slots x l) (target f) ys) (sym behind) chain,
          d.1,
          omega (arith, n, len),
          apart,
          (λ z w q. elim (all z (omega (arith, w, len))) [
            | inl v ↦ inl v
            | inr (inl v) ↦ absurd (q (v ∙ sym same))
            | inr (inr v) ↦ inr v
          ]),
          omega (arith, len),
        )

leaf-live : (slots : List Slot) (x : ℕ) (id size : ℕ) (content : Content) → is_node (Some content) ≡ true → slice_get slots x ≡ Some (leaf id content size) → IsLive slots x
leaf-live slots x id size content n e = live-by-content slots x ∙ (ap (λ o. is_node (option_map (λ (s : Slot). s.content) o)) e ∙ n)

table-with : (table : List Link) (x i y : ℕ) → x < 4294967295 → table_at (table ++ link_to x ∷ []) i ≡ Some y → (table_at table i ≡ Some y) ⊎ ((i ≡ length table) × (y ≡ x))
table-with table x i y small e = elim (none-or-some (slice_get (table ++ link_to x ∷ []) i)) [
  | inl none ↦ absurd (none-some y (sym (ap (option_and_then target) none) ∙ e))
  | inr some ↦ elim (push-cases table (link_to x) i some.0 some.1) [
    | inl k ↦ inl (ap (option_and_then target) k ∙ (sym (ap (option_and_then target) some.1) ∙ e))
    | inr k ↦ inr (k.0, same_Some y x (sym e ∙ (ap (option_and_then target) some.1 ∙ (ap target k.1 ∙ target-to x small))))
  ]
]

table-old : (table : List Link) (l : Link) (i : ℕ) → i < length table → table_at (table ++ l ∷ []) i ≡ table_at table i
table-old table l i w = ap (option_and_then target) (get-append table (l ∷ []) i w)

pub store-with : (k : Kept) (content : Content) (size : ℕ) → IsStore k → is_node (Some content) ≡ true → k.live + 1 ≤ MAX_NODES → IsStore (kept_with k content size)
store-with k content size s n room =
    let at : ℕ = spot k.slots (target k.free) in
    let l : Slot = leaf (length k.table) content size in
    let f : FreeAfter k l = free-with k l s in
    let w : at < suc (length k.slots) = (spot-is k s).0 in
    let small : at < 4294967295 = omega (arith, w, s.few) in
    let here : slice_get (slots_with k.slots (target k.free) l) at ≡ Some l = get-spot k l s in
    let live_here : IsLive (slots_with k.slots (target k.free) l) at = leaf-live (slots_with k.slots (target k.free) l) at (length k.table) size content n here in
    let other : (x : ℕ) → (x ≡ at → ⊥) → slice_get (slots_with k.slots (target k.free) l) x ≡ slice_get k.slots x = λ x h. get-spot-other k l x h in
    let id_here : id_at (slots_with k.slots (target k.free) l) at ≡ length k.table = ap (λ o. unwrap_or (option_map (λ (t : Slot). t.id) o) 0) here in
    record {
      free = f.0;
      chain = f.1;
      once = f.2;
      count = f.3;
      all = λ x h. elim (cases_Bool (x == at)) [
        | inl t ↦ inl (subst (IsLive (slots_with k.slots (target k.free) l)) (sym (eqb-true x at t)) live_here)
        | inr o ↦ elim (f.5 x h (eqb-false x at o)) [
          | inl v ↦ inl (live-slot-same k.slots (slots_with k.slots (target k.free) l) x (other x (eqb-false x at o)) v)
          | inr v ↦ inr v
        ]
      ];
      listed = λ x h. elim (cases_Bool (x == at)) [
        | inl t ↦
            let e : x ≡ at = eqb-true x at t in
            subst (λ (y : ℕ). table_at (k.table ++ link_to at ∷ []) (id_at (slots_with k.slots (target k.free) l) y) ≡ Some y) (sym e)
            (ap (table_at (k.table ++ link_to at ∷ [])) id_here ∙ (ap (option_and_then target) (get-end k.table (link_to at)) ∙ target-to at small))
        | inr o ↦
            let same : slice_get (slots_with k.slots (target k.free) l) x ≡ slice_get k.slots x = other x (eqb-false x at o) in
            let old : IsLive k.slots x = live-slot-same (slots_with k.slots (target k.free) l) k.slots x (sym same) h in
            let id_same : id_at (slots_with k.slots (target k.free) l) x ≡ id_at k.slots x = ap (λ p. unwrap_or (option_map (λ (t : Slot). t.id) p) 0) same in
            ap (table_at (k.table ++ link_to at ∷ [])) id_same ∙ (table-old k.table (link_to at) (id_at k.slots x) (id-given k x s old) ∙ s.listed x old)
      ];
      found = λ i x e. elim (table-with k.table at i x small e) [
        | inl g ↦
            let was = s.found i x g in
            let ne : x ≡ at → ⊥ = λ q. spot-dead k s (subst (IsLive k.slots) q was.0) in
            let same : slice_get (slots_with k.slots (target k.free) l) x ≡ slice_get k.slots x = other x ne in
            (live-slot-same k.slots (slots_with k.slots (target k.free) l) x same was.0, ap (λ p. unwrap_or (option_map (λ (t : Slot). t.id) p) 0) same ∙ was.1)
        | inr g ↦ (
          subst (IsLive (slots_with k.slots (target k.free) l)) (sym g.1) live_here,
          ap (id_at (slots_with k.slots (target k.free) l)) g.1 ∙ (id_here ∙ sym g.0),
        )
      ];
      few = omega (arith, f.6, s.few, room);
    }

-- ---- a node goes

pub store-without : (k : Kept) (x : ℕ) → IsStore k → IsLive k.slots x → 1 ≤ k.live → IsStore (kept_without k x)
store-without k x s h one =
    let w : x < length k.slots = live-within k.slots x h in
    let small : x < 4294967295 = live-small k x s h in
    let is = get-some k.slots x w in
    let slots : List Slot = slots_without k.slots x k.free (slice_get k.slots x) in
    let slots_are : slots ≡ slice_set k.slots x (freed k.free is.0) = ap (slots_without k.slots x k.free) is.1 in
    let here : slice_get slots x ≡ Some (freed k.free is.0) = ap (λ l. slice_get l x) slots_are ∙ get-set-same k.slots x (freed k.free is.0) w in
    let other : (y : ℕ) → (y ≡ x → ⊥) → slice_get slots y ≡ slice_get k.slots y = λ y n. ap (λ l. slice_get l y) slots_are ∙ get-set-other k.slots x y (freed k.free is.0) n in
    let len : length slots ≡ length k.slots = ap length slots_are ∙ length-slice_set k.slots x (freed k.free is.0) in
    let id : ℕ = id_at k.slots x in
    let given : id < length k.table = id-given k x s h in
    let content : content_at slots x ≡ Some (Free k.free) = ap (option_map (λ (t : Slot). t.content)) here in
    let out : IsAmong x s.free → ⊥ = λ a. chain-dead k.slots (target k.free) s.free x s.chain a h in
    let dead : IsLive slots x → ⊥ = free-dead slots x k.free content in
    let not_x : (y : ℕ) → IsLive slots y → y ≡ x → ⊥ = λ y l e. dead (subst (IsLive slots) e l) in
    let was : (y : ℕ) → IsLive slots y → IsLive k.slots y = λ y l. live-slot-same slots k.slots y (sym (other y (not_x y l))) l in
    let id_same : (y : ℕ) → (y ≡ x → ⊥) → id_at slots y ≡ id_at k.slots y = λ y n. ap (λ o. unwrap_or (option_map (λ (t : Slot). t.id) o) 0) (other y n) in
    record {
      free = x ∷ s.free;
      chain = (target-to x small, (k.free, content, chain-same-contents k.slots slots (target k.free) s.free (λ y a. ap (option_map (λ (t : Slot). t.content)) (other y (λ e. out (subst (λ (z : ℕ). IsAmong z s.free) e a)))) s.chain));
      once = (out, s.once);
      count = omega (arith, s.count, len, one);
      all = λ y v. elim (cases_Bool (y == x)) [
        | inl t ↦ inr (inl (eqb-true y x t))
        | inr o ↦ elim (s.all y (omega (arith, v, len))) [
          | inl l ↦ inl (live-slot-same k.slots slots y (other y (eqb-false y x o)) l)
          | inr a ↦ inr (inr a)
        ]
      ];
      listed = λ y l.
          let n : y ≡ x → ⊥ = not_x y l in
          let apart : id_at k.slots y ≡ id → ⊥ = λ e. n (same_Some y x (sym (s.listed y (was y l)) ∙ (ap (table_at k.table) e ∙ s.listed x h))) in
          ap (table_at (slice_set k.table id no_link)) (id_same y n) ∙ (ap (option_and_then target) (get-set-other k.table id (id_at k.slots y) no_link apart) ∙ s.listed y (was y l));
      found = λ i y e. elim (cases_Bool (i == id)) [
        | inl t ↦
            let at : table_at (slice_set k.table id no_link) i ≡ None =
            ap (table_at (slice_set k.table id no_link)) (eqb-true i id t) ∙ ap (option_and_then target) (get-set-same k.table id no_link given) in
            absurd (none-some y (sym at ∙ e))
        | inr o ↦
            let old = s.found i y (sym (ap (option_and_then target) (get-set-other k.table id i no_link (eqb-false i id o))) ∙ e) in
            let n : y ≡ x → ⊥ = λ q. eqb-false i id o (sym old.1 ∙ ap (id_at k.slots) q) in
            (live-slot-same k.slots slots y (other y n) old.0, id_same y n ∙ old.1)
      ];
      few = omega (arith, s.few, len);
    }

-- the first free slot is there
pub free-within : (k : Kept) (x : ℕ) → IsStore k → target k.free ≡ Some x → x < length k.slots
free-within k x s e = by-free s.free s.chain
  where
    by-free : (xs : List ℕ) → FreeChain k.slots (target k.free) xs → x < length k.slots
    by-free [] c = absurd (none-some x (sym c ∙ e))
    by-free (y ∷ ys) c = chain-within k.slots (target k.free) (y ∷ ys) x c (inl (same_Some x y (sym e ∙ c.0)))
