-- Where a name stands among custom properties in order of name.
use Rattle.std.proofs.Common.{◌≡◌, ◌∙◌, ap, sym, refl, subst, ℕ, zero, suc, ◌+◌, ◌<◌, ◌≤◌, length, get_or, take, drop, List, [], ◌∷◌, Bool, true, false, inl, inr, arith}
use Rattle.std.specs.Prelude.{Some, insert}
use Rattle.std.specs.List.{slice_get, slice_set}
use Rattle.std.proofs.lemmas.Bool.{cases_Bool, false≢true}
use Rattle.std.proofs.lemmas.Option.{none-some, same_Some}
use Rattle.css_model.specs.Classes.{Text}
use Rattle.page_model.specs.Attributes.{is_less_text, is_same_text}
use Rattle.page_laws.proofs.AttributesInOrder.{less-then-less}
use Rattle.custom_model.specs.NamedValues.{are_in_order}
use Rattle.custom_laws.proofs.Ordered.{order-leads, order-tail}
use Rattle.custom_props.proofs.PlacesInOrder.{order-drop, order-take}
use Rattle.cascade_core.specs.declared.customs.CustomWinner.{CustomWinner}
use Rattle.cascade_core.specs.inner.Customs.{less_count, name_of, names, offered, stands_at}
use Rattle.cascade_core.specs.inner.Strength.{yields}

-- ---- halves

names-take : (i : ℕ) (entries : List CustomWinner) → names (take i entries) ≡ take i (names entries)
names-take zero entries = refl
names-take (suc i) [] = refl
names-take (suc i) (w ∷ entries) = ap (λ ns. name_of w ∷ ns) (names-take i entries)

names-drop : (i : ℕ) (entries : List CustomWinner) → names (drop i entries) ≡ drop i (names entries)
names-drop zero entries = refl
names-drop (suc i) [] = refl
names-drop (suc i) (w ∷ entries) = names-drop i entries

name-in : (entries : List CustomWinner) (i : ℕ) (d : CustomWinner) → i < length entries
    → slice_get (names entries) i ≡ Some (name_of (get_or entries i d))
name-in [] i d h = absurd (omega (arith, h))
name-in (w ∷ entries) zero d h = refl
name-in (w ∷ entries) (suc i) d h = name-in entries i d (omega (arith, h))

pub front-in-order : (i : ℕ) (entries : List CustomWinner) → are_in_order (names entries) ≡ true
    → are_in_order (names (take i entries)) ≡ true
front-in-order i entries o = ap are_in_order (names-take i entries) ∙ order-take i (names entries) o

pub back-in-order : (i : ℕ) (entries : List CustomWinner) → are_in_order (names entries) ≡ true
    → are_in_order (names (drop i entries)) ≡ true
back-in-order i entries o = ap are_in_order (names-drop i entries) ∙ order-drop i (names entries) o

pub front-short : (i : ℕ) (entries : List CustomWinner) → length (take i entries) ≤ length entries
front-short zero entries = omega arith
front-short (suc i) [] = omega arith
front-short (suc i) (w ∷ entries) = omega (arith, front-short i entries)

pub front-shorter : (i : ℕ) (entries : List CustomWinner) → i < length entries → length (take i entries) ≡ i
front-shorter i [] h = absurd (omega (arith, h))
front-shorter zero (w ∷ entries) h = refl
front-shorter (suc i) (w ∷ entries) h = ap suc (front-shorter i entries (omega (arith, h)))

pub back-short : (i : ℕ) (entries : List CustomWinner) → i < length entries
    → length (drop (suc i) entries) + suc i ≡ length entries
back-short i [] h = absurd (omega (arith, h))
back-short zero (w ∷ entries) h = omega arith
back-short (suc i) (w ∷ entries) h = omega (arith, back-short i entries (omega (arith, h)))

-- the first of names in order is less than each of the others
less-at : (n : Text) (ns : List Text) (i : ℕ) (m : Text) → are_in_order (n ∷ ns) ≡ true
    → slice_get ns i ≡ Some m → is_less_text n m ≡ true
less-at n [] i m o h = absurd (none-some m h)
less-at n (p ∷ ns) zero m o h =
    subst (λ (x : Text). is_less_text n x ≡ true) (same_Some p m h) (order-leads n (p ∷ ns) o)
less-at n (p ∷ ns) (suc i) m o h =
    less-then-less n p m (order-leads n (p ∷ ns) o)
    (less-at p ns i m (order-tail n (p ∷ ns) o) h)

count-front : (n : Text) (ns : List Text) (i : ℕ) (m : Text) → slice_get ns i ≡ Some m
    → is_less_text m n ≡ false → less_count n (take i ns) ≡ less_count n ns
count-front n [] i m h f = absurd (none-some m h)
count-front n (x ∷ ns) zero m h f =
    let here : is_less_text x n ≡ false = ap (λ y. is_less_text y n) (same_Some x m h) ∙ f in
    rw here refl
count-front n (x ∷ ns) (suc i) m h f = elim (cases_Bool (is_less_text x n)) [
  | inl t ↦ rw t (ap suc (count-front n ns i m h f))
  | inr g ↦ rw g refl
]

count-back : (n : Text) (ns : List Text) (i : ℕ) (m : Text) → are_in_order ns ≡ true
    → slice_get ns i ≡ Some m → is_less_text m n ≡ true
    → suc i + less_count n (drop (suc i) ns) ≡ less_count n ns
count-back n [] i m o h t = absurd (none-some m h)
count-back n (x ∷ ns) zero m o h t =
    let here : is_less_text x n ≡ true = ap (λ y. is_less_text y n) (same_Some x m h) ∙ t in
    rw here (omega arith)
count-back n (x ∷ ns) (suc i) m o h t =
    let here : is_less_text x n ≡ true = less-then-less x m n (less-at x ns i m o h) t in
    rw here (omega (arith, count-back n ns i m (order-tail x ns o) h t))

pub half-front : (n : Text) (entries : List CustomWinner) (i : ℕ) (d : CustomWinner) → i < length entries
    → is_less_text (name_of (get_or entries i d)) n ≡ false
    → less_count n (names (take i entries)) ≡ less_count n (names entries)
half-front n entries i d h f =
    ap (less_count n) (names-take i entries)
    ∙ count-front n (names entries) i (name_of (get_or entries i d)) (name-in entries i d h) f

pub half-back : (n : Text) (entries : List CustomWinner) (i : ℕ) (d : CustomWinner)
    → are_in_order (names entries) ≡ true → i < length entries
    → is_less_text (name_of (get_or entries i d)) n ≡ true
    → suc i + less_count n (names (drop (suc i) entries)) ≡ less_count n (names entries)
half-back n entries i d o h t =
    ap (λ ns. suc i + less_count n ns) (names-drop (suc i) entries)
    ∙ count-back n (names entries) i (name_of (get_or entries i d)) o (name-in entries i d h) t

-- ---- what is written there

pub stands-within : (i : ℕ) (n : Text) (entries : List CustomWinner) → stands_at i n entries ≡ true → i < length entries
stands-within i n [] h = absurd (false≢true h)
stands-within zero n (w ∷ entries) h = omega arith
stands-within (suc i) n (w ∷ entries) h = omega (arith, stands-within i n entries h)

pub insert-is : (v : CustomWinner) (entries : List CustomWinner)
    → stands_at (less_count (name_of v) (names entries)) (name_of v) entries ≡ false
    → insert entries (less_count (name_of v) (names entries)) v ≡ offered v entries
insert-is v [] f = refl
insert-is v (w ∷ entries) f = elim (cases_Bool (is_less_text (name_of w) (name_of v))) [
  | inl t ↦ rw t (ap (λ es. w ∷ es) (insert-is v entries (rw t at f)))
  | inr g ↦
      let other : is_same_text (name_of v) (name_of w) ≡ false = rw g at f in
      rw (g, other) refl
]

pub set-is : (v : CustomWinner) (entries : List CustomWinner) (d : CustomWinner)
    → stands_at (less_count (name_of v) (names entries)) (name_of v) entries ≡ true
    → yields (Some (get_or entries (less_count (name_of v) (names entries)) d).applied) v.applied ≡ true
    → slice_set entries (less_count (name_of v) (names entries)) v ≡ offered v entries
set-is v [] d t y = absurd (false≢true t)
set-is v (w ∷ entries) d t y = elim (cases_Bool (is_less_text (name_of w) (name_of v))) [
  | inl l ↦ rw l (ap (λ es. w ∷ es) (set-is v entries d (rw l at t) (rw l at y)))
  | inr g ↦
      let same : is_same_text (name_of v) (name_of w) ≡ true = rw g at t in
      let later : yields (Some w.applied) v.applied ≡ true = rw g at y in
      rw (g, same) (rw later refl)
]

pub left-is : (v : CustomWinner) (entries : List CustomWinner) (d : CustomWinner)
    → stands_at (less_count (name_of v) (names entries)) (name_of v) entries ≡ true
    → yields (Some (get_or entries (less_count (name_of v) (names entries)) d).applied) v.applied ≡ false
    → entries ≡ offered v entries
left-is v [] d t y = absurd (false≢true t)
left-is v (w ∷ entries) d t y = elim (cases_Bool (is_less_text (name_of w) (name_of v))) [
  | inl l ↦ rw l (ap (λ es. w ∷ es) (left-is v entries d (rw l at t) (rw l at y)))
  | inr g ↦
      let same : is_same_text (name_of v) (name_of w) ≡ true = rw g at t in
      let earlier : yields (Some w.applied) v.applied ≡ false = rw g at y in
      rw (g, same) (rw earlier refl)
]

-- ---- as code does it

here-is : (n : Text) (v : CustomWinner) (entries : List CustomWinner) (i : ℕ) → n ≡ name_of v
    → i ≡ less_count n (names entries) → i ≡ less_count (name_of v) (names entries)
here-is n v entries i named at = at ∙ ap (λ m. less_count m (names entries)) named

stands-here : (n : Text) (v : CustomWinner) (entries : List CustomWinner) (i : ℕ) (s : Bool) → n ≡ name_of v
    → i ≡ less_count n (names entries) → s ≡ stands_at i n entries
    → stands_at (less_count (name_of v) (names entries)) (name_of v) entries ≡ s
stands-here n v entries i s named at is =
    ap (λ k. stands_at k (name_of v) entries) (sym (here-is n v entries i named at))
    ∙ (ap (λ m. stands_at i m entries) (sym named) ∙ sym is)

yields-here : (n : Text) (v : CustomWinner) (entries : List CustomWinner) (i : ℕ) (d : CustomWinner) (y : Bool) → n ≡ name_of v
    → i ≡ less_count n (names entries) → d ≡ get_or entries i d → y ≡ yields (Some d.applied) v.applied
    → yields (Some (get_or entries (less_count (name_of v) (names entries)) d).applied) v.applied ≡ y
yields-here n v entries i d y named at d-is y-is =
    ap (λ k. yields (Some (get_or entries k d).applied) v.applied) (sym (here-is n v entries i named at))
    ∙ (ap (λ (w : CustomWinner). yields (Some w.applied) v.applied) (sym d-is) ∙ sym y-is)

pub written : (n : Text) (v : CustomWinner) (entries : List CustomWinner) (i : ℕ) (d : CustomWinner) (s y : Bool)
    → n ≡ name_of v → i ≡ less_count n (names entries) → s ≡ stands_at i n entries → s ≡ true
    → d ≡ get_or entries i d → y ≡ yields (Some d.applied) v.applied → y ≡ true
    → slice_set entries i v ≡ offered v entries
written n v entries i d s y named at s-is s-true d-is y-is y-true =
    ap (λ k. slice_set entries k v) (here-is n v entries i named at)
    ∙ set-is v entries d (stands-here n v entries i s named at s-is ∙ s-true)
    (yields-here n v entries i d y named at d-is y-is ∙ y-true)

pub left : (n : Text) (v : CustomWinner) (entries : List CustomWinner) (i : ℕ) (d : CustomWinner) (s y : Bool)
    → n ≡ name_of v → i ≡ less_count n (names entries) → s ≡ stands_at i n entries → s ≡ true
    → d ≡ get_or entries i d → y ≡ yields (Some d.applied) v.applied → y ≡ false
    → entries ≡ offered v entries
left n v entries i d s y named at s-is s-true d-is y-is y-false =
    left-is v entries d (stands-here n v entries i s named at s-is ∙ s-true)
    (yields-here n v entries i d y named at d-is y-is ∙ y-false)

pub inserted : (n : Text) (v : CustomWinner) (entries : List CustomWinner) (i : ℕ) (s : Bool)
    → n ≡ name_of v → i ≡ less_count n (names entries) → s ≡ stands_at i n entries → s ≡ false
    → insert entries i v ≡ offered v entries
inserted n v entries i s named at s-is s-false =
    ap (λ k. insert entries k v) (here-is n v entries i named at)
    ∙ insert-is v entries (stands-here n v entries i s named at s-is ∙ s-false)
