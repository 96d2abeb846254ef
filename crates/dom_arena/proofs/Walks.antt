-- Walking along a list of children by their links.
use Rattle.std.proofs.Common.{slice_get, List, None, Option, Some, [], ap, arith, drop, length, refl, subst, suc, sym, take, zero, ℕ, ◌++◌, ◌<◌, ◌∙◌, ◌∷◌, ◌≡◌}
use Rattle.std.proofs.lemmas.List.{take-append-drop}
use Rattle.std.proofs.lemmas.Option.{none-some, same_Some}
use Rattle.dom_arena.proofs.Builds.{drop-whole, take-whole}
use Rattle.dom_arena.proofs.Chains.{chain-cut}
use Rattle.dom_arena.proofs.Readings.{front-first}
use Rattle.dom_arena.proofs.Releases.{slot-of-body}
use Rattle.dom_arena.proofs.Written.{body-parts}
use Rattle.dom_arena.specs.Between.{IsBetween, before_in}
use Rattle.dom_arena.specs.Built.{after_in}
use Rattle.dom_arena.specs.Cells.{AreChained, Place, body_of, final, front}
use Rattle.dom_arena.specs.Slots.{body_at, child_number, first_link, last_link, target}
use Rattle.dom_arena.specs.declared.link.Link.{Link}
use Rattle.dom_arena.specs.declared.slot.Slot.{Slot}
use Rattle.page_model.specs.Document.{Node, children_of, ids_of}

-- the item at an index
item-at : (k : ℕ) (xs : List ℕ) → k < length xs → (y : ℕ) × ((drop k xs ≡ y ∷ drop (suc k) xs) × (take (suc k) xs ≡ take k xs ++ y ∷ []))
item-at k [] h = absurd (omega (arith, h))
item-at zero (x ∷ xs) h = (x, (refl, refl))
item-at (suc k) (x ∷ xs) h =
    let rest = item-at k xs (omega (arith, h)) in
    (rest.0, (rest.1.0, ap (λ (ys : List ℕ). x ∷ ys) rest.1.1))

final-push : (o : Option ℕ) (xs : List ℕ) (y : ℕ) → final o (xs ++ y ∷ []) ≡ Some y
final-push o [] y = refl
final-push o (x ∷ xs) y = final-push (Some x) xs y

-- the item at an index, the end of the list before it, and its place
pub record Item (place : ℕ → Option Place) (up k : ℕ) (xs : List ℕ) : Type 0 where
  pub item : ℕ
  pub front_is : front (drop k xs) None ≡ Some item
  pub final_is : final None (take (suc k) xs) ≡ Some item
  pub place_is : place item ≡ Some (record { up = Some up; before = final None (take k xs); after = front (drop (suc k) xs) None })

pub item-of : (place : ℕ → Option Place) (up k : ℕ) (xs : List ℕ) → AreChained place up None xs None → k < length xs → Item place up k xs
item-of place up k xs h w =
    let y = item-at k xs w in
    let whole : take k xs ++ drop k xs ≡ xs = take-append-drop k xs in
    let cut = chain-cut place up None (take k xs) (drop k xs) None (subst (λ (zs : List ℕ). AreChained place up None zs None) (sym whole) h) in
    let rest = subst (λ (zs : List ℕ). AreChained place up (final None (take k xs)) zs None) y.1.0 cut.1 in
    record {
      item = y.0;
      front_is = ap (λ (zs : List ℕ). front zs None) y.1.0;
      final_is = ap (final None) y.1.1 ∙ final-push None (take k xs) y.0;
      place_is = rest.0;
    }

-- one step to the next sibling
pub between-next : (place : ℕ → Option Place) (up k at : ℕ) (xs : List ℕ) (prev next behind : Link) → AreChained place up None xs None → k < length xs
    → IsBetween prev next k xs → target next ≡ Some at → target behind ≡ after_in (place at) → IsBetween next behind (suc k) xs
between-next place up k at xs prev next behind h w b e f =
    let i = item-of place up k xs h w in
    let same : i.item ≡ at = same_Some i.item at (sym i.front_is ∙ (sym b.1 ∙ e)) in
    (e ∙ (sym (ap Some same) ∙ sym i.final_is), f ∙ (ap (λ (y : ℕ). after_in (place y)) (sym same) ∙ ap after_in i.place_is))

-- one step to the previous sibling
pub between-prev : (place : ℕ → Option Place) (up k at : ℕ) (xs : List ℕ) (prev next before : Link) → AreChained place up None xs None → k < length xs
    → IsBetween prev next (suc k) xs → target prev ≡ Some at → target before ≡ before_in (place at) → IsBetween before prev k xs
between-prev place up k at xs prev next before h w b e f =
    let i = item-of place up k xs h w in
    let same : i.item ≡ at = same_Some i.item at (sym i.final_is ∙ (sym b.0 ∙ e)) in
    (f ∙ (ap (λ (y : ℕ). before_in (place y)) (sym same) ∙ ap before_in i.place_is), e ∙ (sym (ap Some same) ∙ sym i.front_is))

-- there is a sibling behind, while not all were passed
pub next-there : (place : ℕ → Option Place) (up k : ℕ) (xs : List ℕ) (prev next : Link) → AreChained place up None xs None → k < length xs
    → IsBetween prev next k xs → target next ≡ None → ⊥
next-there place up k xs prev next h w b e =
    let i = item-of place up k xs h w in
    none-some i.item (sym e ∙ (b.1 ∙ i.front_is))

pub prev-there : (place : ℕ → Option Place) (up k : ℕ) (xs : List ℕ) (prev next : Link) → AreChained place up None xs None → k < length xs
    → IsBetween prev next (suc k) xs → target prev ≡ None → ⊥
prev-there place up k xs prev next h w b e =
    let i = item-of place up k xs h w in
    none-some i.item (sym e ∙ (b.0 ∙ i.final_is))

pub between-all : (last none : Link) (xs : List ℕ) → target last ≡ final None xs → target none ≡ None → IsBetween last none (length xs) xs
between-all last none xs e f =
    (e ∙ ap (final None) (sym (take-whole xs)), f ∙ ap (λ (ys : List ℕ). front ys None) (sym (drop-whole xs)))

-- the ends of a list of children, and its length
pub record Ends (slots : List Slot) (p : ℕ) (x : Node) : Type 0 where
  pub first : target (first_link (slice_get slots p)) ≡ front (ids_of (children_of x)) None
  pub last : target (last_link (slice_get slots p)) ≡ final None (ids_of (children_of x))
  pub count : child_number (slice_get slots p) ≡ length (ids_of (children_of x))

pub ends-of : (slots : List Slot) (p : ℕ) (x : Node) → body_at slots p ≡ Some (body_of x) → Ends slots p x
ends-of slots p x e =
    let s = slot-of-body slots p (body_of x) e in
    let parts = body-parts p s.0 (body_of x) s.2 in
    record {
      first = ap (λ o. target (first_link o)) s.1 ∙ (parts.1 ∙ sym (front-first (ids_of (children_of x))));
      last = ap (λ o. target (last_link o)) s.1 ∙ parts.2;
      count = ap child_number s.1 ∙ parts.3;
    }
