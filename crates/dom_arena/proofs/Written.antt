-- What slots say after one of them was written.
use Rattle.std.proofs.Common.{List, None, Option, Some, ap, eqb-true, inl, inr, length, option_and_then, option_map, refl, slice_get, sym, unwrap_or, ℕ, ◌==◌, ◌∙◌, ◌≡◌}
use Rattle.std.proofs.lemmas.Bool.{cases_Bool, eqb-false}
use Rattle.std.proofs.lemmas.Option.{none-some, same_Some}
use Rattle.dom_arena.proofs.Lists.{get-set-other, get-set-same, get-within, length-slice_set}
use Rattle.dom_arena.specs.Cells.{Body, Place}
use Rattle.dom_arena.specs.Slots.{body_at, body_in, content_at, id_at, own_in, place_at, place_in, target}
use Rattle.dom_arena.specs.Writes.{changed}
use Rattle.page_laws.proofs.Options.{none-or-some}
use Rattle.page_model.specs.Document.{Node}
use Rattle.dom_arena.specs.declared.slot.Slot.{Slot}

pub get-changed-here : (x : ℕ) (f : Slot → Slot) (slots : List Slot) → slice_get (changed x f slots) x ≡ option_map f (slice_get slots x)
get-changed-here x f slots = elim (none-or-some (slice_get slots x)) [
  | inl none ↦ rw (none, none) refl
  | inr some ↦ rw some.1 (get-set-same slots x (f some.0) (get-within slots x some.0 some.1))
]

pub get-changed-other : (x j : ℕ) (f : Slot → Slot) (slots : List Slot) → (j ≡ x → ⊥) → slice_get (changed x f slots) j ≡ slice_get slots j
get-changed-other x j f slots h = elim (none-or-some (slice_get slots x)) [
  | inl none ↦ rw none refl
  | inr some ↦ rw some.1 (get-set-other slots x j (f some.0) h)
]

pub length-changed : (x : ℕ) (f : Slot → Slot) (slots : List Slot) → length (changed x f slots) ≡ length slots
length-changed x f slots = elim (none-or-some (slice_get slots x)) [
  | inl none ↦ rw none refl
  | inr some ↦ rw some.1 (length-slice_set slots x (f some.0))
]

-- what is read of each slot, where `f` does not change it
pub read-changed : {Y : Type 0} (read : Slot → Y) (x j : ℕ) (f : Slot → Slot) (slots : List Slot) → ((s : Slot) → read (f s) ≡ read s)
    → option_map read (slice_get (changed x f slots) j) ≡ option_map read (slice_get slots j)
read-changed read x j f slots h = elim (cases_Bool (j == x)) [
  | inl t ↦
      let e : j ≡ x = eqb-true j x t in
      elim (none-or-some (slice_get slots x)) [
        | inl none ↦ rw e (ap (option_map read) (get-changed-here x f slots) ∙ (ap (λ o. option_map read (option_map f o)) none ∙ sym (ap (option_map read) none)))
        | inr some ↦ rw e (ap (option_map read) (get-changed-here x f slots) ∙ (ap (λ o. option_map read (option_map f o)) some.1 ∙ (ap Some (h some.0) ∙ sym (ap (option_map read) some.1))))
      ]
  | inr o ↦ ap (option_map read) (get-changed-other x j f slots (eqb-false j x o))
]

pub place-changed : (x j : ℕ) (f : Slot → Slot) (slots : List Slot) → ((s : Slot) → place_in (f s) ≡ place_in s) → place_at (changed x f slots) j ≡ place_at slots j
place-changed x j f slots h = read-changed place_in x j f slots h

pub id-changed : (x j : ℕ) (f : Slot → Slot) (slots : List Slot) → ((s : Slot) → (f s).id ≡ s.id) → id_at (changed x f slots) j ≡ id_at slots j
id-changed x j f slots h = ap (λ o. unwrap_or o 0) (read-changed (λ (s : Slot). s.id) x j f slots h)

pub content-changed : (x j : ℕ) (f : Slot → Slot) (slots : List Slot) → ((s : Slot) → (f s).content ≡ s.content) → content_at (changed x f slots) j ≡ content_at slots j
content-changed x j f slots h = read-changed (λ (s : Slot). s.content) x j f slots h

flat : {X Y : Type 0} (f : X → Option Y) (o : Option X) → option_and_then f o ≡ unwrap_or (option_map f o) None
flat f None = refl
flat f (Some x) = refl

pub body-changed : (x j : ℕ) (f : Slot → Slot) (slots : List Slot) → ((s : Slot) → body_in j (f s) ≡ body_in j s) → body_at (changed x f slots) j ≡ body_at slots j
body-changed x j f slots h =
    flat (body_in j) (slice_get (changed x f slots) j)
    ∙ (ap (λ o. unwrap_or o None) (read-changed (body_in j) x j f slots h) ∙ sym (flat (body_in j) (slice_get slots j)))

-- ---- the slot that was written

pub place-written : (x : ℕ) (f : Slot → Slot) (g : Place → Place) (slots : List Slot) → ((s : Slot) → place_in (f s) ≡ g (place_in s)) → place_at (changed x f slots) x ≡ option_map g (place_at slots x)
place-written x f g slots h = elim (none-or-some (slice_get slots x)) [
  | inl none ↦ ap (option_map place_in) (get-changed-here x f slots) ∙ (ap (λ o. option_map place_in (option_map f o)) none ∙ sym (ap (λ o. option_map g (option_map place_in o)) none))
  | inr some ↦ ap (option_map place_in) (get-changed-here x f slots) ∙ (ap (λ o. option_map place_in (option_map f o)) some.1 ∙ (ap Some (h some.0) ∙ sym (ap (λ o. option_map g (option_map place_in o)) some.1)))
]

pub body-written : (x : ℕ) (f : Slot → Slot) (g : Body → Body) (slots : List Slot) → ((s : Slot) → body_in x (f s) ≡ option_map g (body_in x s)) → body_at (changed x f slots) x ≡ option_map g (body_at slots x)
body-written x f g slots h = elim (none-or-some (slice_get slots x)) [
  | inl none ↦ ap (option_and_then (body_in x)) (get-changed-here x f slots) ∙ (ap (λ o. option_and_then (body_in x) (option_map f o)) none ∙ sym (ap (λ o. option_map g (option_and_then (body_in x) o)) none))
  | inr some ↦ ap (option_and_then (body_in x)) (get-changed-here x f slots) ∙ (ap (λ o. option_and_then (body_in x) (option_map f o)) some.1 ∙ (h some.0 ∙ sym (ap (λ o. option_map g (option_and_then (body_in x) o)) some.1)))
]

pub place-elsewhere : (x j : ℕ) (f : Slot → Slot) (slots : List Slot) → (j ≡ x → ⊥) → place_at (changed x f slots) j ≡ place_at slots j
place-elsewhere x j f slots h = ap (option_map place_in) (get-changed-other x j f slots h)

pub body-elsewhere : (x j : ℕ) (f : Slot → Slot) (slots : List Slot) → (j ≡ x → ⊥) → body_at (changed x f slots) j ≡ body_at slots j
body-elsewhere x j f slots h = ap (option_and_then (body_in j)) (get-changed-other x j f slots h)

-- ---- the parts of a body

pub body-parts : (x : ℕ) (s : Slot) (b : Body) → body_in x s ≡ Some b → (own_in x s.content ≡ Some b.own) × (target s.first ≡ b.first) × (target s.last ≡ b.last) × (s.children ≡ b.count) × (s.size ≡ b.size)
body-parts x s b e = by-own (own_in x s.content) e
  where
    by-own : (o : Option Node) → option_map (λ own. record { own = own; first = target s.first; last = target s.last; count = s.children; size = s.size }) o ≡ Some b
        → (o ≡ Some b.own) × (target s.first ≡ b.first) × (target s.last ≡ b.last) × (s.children ≡ b.count) × (s.size ≡ b.size)
    by-own None e = absurd (none-some b e)
    by-own (Some n) e =
        let same = same_Some _ b e in
        (ap (λ (c : Body). Some c.own) same, ap (λ (c : Body). c.first) same, ap (λ (c : Body). c.last) same, ap (λ (c : Body). c.count) same, ap (λ (c : Body). c.size) same)

-- the body in a slot that is there
pub body-read : (slots : List Slot) (x : ℕ) (s : Slot) (b : Body) → slice_get slots x ≡ Some s → body_at slots x ≡ Some b → body_in x s ≡ Some b
body-read slots x s b at e = sym (ap (option_and_then (body_in x)) at) ∙ e

pub body-unread : (slots : List Slot) (x : ℕ) (b : Body) → slice_get slots x ≡ None → body_at slots x ≡ Some b → ⊥
body-unread slots x b at e = none-some b (sym (ap (option_and_then (body_in x)) at) ∙ e)
