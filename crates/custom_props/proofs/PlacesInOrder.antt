-- Where a name stands in names in order, by one name in the middle.
use Rattle.std.proofs.Common.{◌≡◌, ◌∙◌, ap, sym, refl, subst, ℕ, zero, suc, ◌+◌, ◌<◌, ◌≤◌, length, get_or, Less, Equal, Greater, List, [], ◌∷◌, true, false, inl, inr, Option, Some, None, option_map, take, drop, arith}
use Rattle.std.specs.Prelude.{slice_get}
use Rattle.std.proofs.lemmas.Bool.{cases_Bool, false≢true}
use Rattle.std.proofs.lemmas.Option.{none-some, same_Some}
use Rattle.css_model.specs.Classes.{Text}
use Rattle.page_model.specs.Attributes.{is_less_text, is_same_text}
use Rattle.page_laws.proofs.AttributesInOrder.{same-text, less-or-more, less-then-less}
use Rattle.custom_model.specs.NamedValues.{are_in_order}
use Rattle.custom_laws.proofs.Ordered.{leads, order-cons, order-leads, order-tail, leads-through, not-less}
use Rattle.custom_model.specs.NamedValues.{names_of}
use Rattle.custom_props.specs.Views.{values_view}
use Rattle.custom_props.specs.declared.named_value.NamedValue.{NamedValue}
use Rattle.custom_props.specs.inner.Places.{order_of, place_of}

-- ---- order

pub less-other : (n m : Text) → is_less_text n m ≡ true → is_same_text n m ≡ false
less-other n m l = elim (cases_Bool (is_same_text n m)) [
  | inl t ↦ absurd (false≢true (sym (not-less n) ∙ (ap (is_less_text n) (same-text n m t) ∙ l)))
  | inr f ↦ f
]

pub more-other : (n m : Text) → is_less_text m n ≡ true → is_same_text n m ≡ false
more-other n m l = elim (cases_Bool (is_same_text n m)) [
  | inl t ↦ absurd (false≢true (sym (not-less n) ∙ (ap (λ x. is_less_text x n) (same-text n m t) ∙ l)))
  | inr f ↦ f
]

-- the first of names in order is less than each of the others
less-at : (n : Text) (names : List Text) (i : ℕ) (m : Text) → are_in_order (n ∷ names) ≡ true
    → slice_get names i ≡ Some m → is_less_text n m ≡ true
less-at n [] i m o h = absurd (none-some m h)
less-at n (p ∷ names) zero m o h =
    subst (λ (x : Text). is_less_text n x ≡ true) (same_Some p m h) (order-leads n (p ∷ names) o)
less-at n (p ∷ names) (suc i) m o h =
    less-then-less n p m (order-leads n (p ∷ names) o)
    (less-at p names i m (order-tail n (p ∷ names) o) h)

-- ---- places

place-absent : (name : Text) (names : List Text) → are_in_order names ≡ true → leads name names ≡ true
    → place_of name names ≡ None
place-absent name [] o l = refl
place-absent name (n ∷ names) o l =
    rw (
      less-other name n l,
      place-absent name names (order-tail n names o)
          (leads-through name n names l (order-leads n names o)),
    ) refl

-- the name stands in the middle
pub place-at : (name : Text) (names : List Text) (i : ℕ) (m : Text) → are_in_order names ≡ true
    → slice_get names i ≡ Some m → is_same_text name m ≡ true → place_of name names ≡ Some i
place-at name [] i m o h s = absurd (none-some m h)
place-at name (n ∷ names) zero m o h s =
    rw (subst (λ (x : Text). is_same_text name x ≡ true) (sym (same_Some n m h)) s) refl
place-at name (n ∷ names) (suc i) m o h s =
    let other : is_same_text name n ≡ false = more-other name n
    (subst (λ (x : Text). is_less_text n x ≡ true) (sym (same-text name m s)) (less-at n names i m o h)) in
    rw (other, place-at name names i m (order-tail n names o) h s) refl

-- it is less than the one in the middle
pub place-before : (name : Text) (names : List Text) (i : ℕ) (m : Text) → are_in_order names ≡ true
    → slice_get names i ≡ Some m → is_less_text name m ≡ true
    → place_of name names ≡ place_of name (take i names)
place-before name [] i m o h l = absurd (none-some m h)
place-before name (n ∷ names) zero m o h l =
    place-absent name (n ∷ names) o
    (subst (λ (x : Text). is_less_text name x ≡ true) (sym (same_Some n m h)) l)
place-before name (n ∷ names) (suc i) m o h l = elim (cases_Bool (is_same_text name n)) [
  | inl t ↦ rw t refl
  | inr f ↦ rw f (ap (option_map suc) (place-before name names i m (order-tail n names o) h l))
]

-- places that are behind so many others
abbrev pub behind : ℕ → Option ℕ → Option ℕ
behind k place = option_map (λ i. k + i) place

pub behind-none : (place : Option ℕ) → behind 0 place ≡ place
behind-none None = refl
behind-none (Some i) = ap Some (omega arith)

behind-one : (place : Option ℕ) → option_map suc place ≡ behind 1 place
behind-one None = refl
behind-one (Some i) = ap Some (omega arith)

behind-more : (k : ℕ) (place : Option ℕ) → option_map suc (behind k place) ≡ behind (suc k) place
behind-more k None = refl
behind-more k (Some i) = ap Some (omega arith)

pub behind-behind : (j k : ℕ) (place : Option ℕ) → behind j (behind k place) ≡ behind (j + k) place
behind-behind j k None = refl
behind-behind j k (Some i) = ap Some (omega arith)

-- it is more than the one in the middle
pub place-after : (name : Text) (names : List Text) (i : ℕ) (m : Text) → are_in_order names ≡ true
    → slice_get names i ≡ Some m → is_less_text m name ≡ true
    → place_of name names ≡ behind (suc i) (place_of name (drop (suc i) names))
place-after name [] i m o h l = absurd (none-some m h)
place-after name (n ∷ names) zero m o h l =
    rw (more-other name n (subst (λ (x : Text). is_less_text x name ≡ true) (sym (same_Some n m h)) l))
    (behind-one (place_of name names))
place-after name (n ∷ names) (suc i) m o h l =
    let less : is_less_text n name ≡ true = less-then-less n m name (less-at n names i m o h) l in
    rw (more-other name n less)
    (ap (option_map suc) (place-after name names i m (order-tail n names o) h l)
    ∙ behind-more (suc i) (place_of name (drop (suc i) names)))

-- ---- parts of names in order

pub order-drop : (i : ℕ) (names : List Text) → are_in_order names ≡ true → are_in_order (drop i names) ≡ true
order-drop zero names o = o
order-drop (suc i) [] o = refl
order-drop (suc i) (n ∷ names) o = order-drop i names (order-tail n names o)

leads-take : (i : ℕ) (n : Text) (names : List Text) → leads n names ≡ true → leads n (take i names) ≡ true
leads-take zero n names l = refl
leads-take (suc i) n [] l = refl
leads-take (suc i) n (m ∷ names) l = l

pub order-take : (i : ℕ) (names : List Text) → are_in_order names ≡ true → are_in_order (take i names) ≡ true
order-take zero names o = refl
order-take (suc i) [] o = refl
order-take (suc i) (n ∷ names) o =
    order-cons n (take i names) (leads-take i n names (order-leads n names o))
    (order-take i names (order-tail n names o))

-- ---- halves of names with values

order-equal : (cs ds : Text) → Equal ≡ order_of cs ds → is_same_text cs ds ≡ true
order-equal cs ds h = elim (cases_Bool (is_same_text cs ds)) [
  | inl t ↦ t
  | inr f ↦ elim (cases_Bool (is_less_text cs ds)) [
    | inl l ↦ absurd (equal-less (rw (f, l) at h))
    | inr g ↦ absurd (equal-greater (rw (f, g) at h))
  ]
]
  where
    equal-less : Equal ≡ Less → ⊥
    equal-less e = cc

    equal-greater : Equal ≡ Greater → ⊥
    equal-greater e = cc

order-less : (cs ds : Text) → Less ≡ order_of cs ds → is_less_text cs ds ≡ true
order-less cs ds h = elim (cases_Bool (is_same_text cs ds)) [
  | inl t ↦ absurd (less-equal (rw t at h))
  | inr f ↦ elim (cases_Bool (is_less_text cs ds)) [
    | inl l ↦ l
    | inr g ↦ absurd (less-greater (rw (f, g) at h))
  ]
]
  where
    less-equal : Less ≡ Equal → ⊥
    less-equal e = cc

    less-greater : Less ≡ Greater → ⊥
    less-greater e = cc

order-greater : (cs ds : Text) → Greater ≡ order_of cs ds → is_less_text ds cs ≡ true
order-greater cs ds h = elim (cases_Bool (is_same_text cs ds)) [
  | inl t ↦ absurd (greater-equal (rw t at h))
  | inr f ↦ elim (cases_Bool (is_less_text cs ds)) [
    | inl l ↦ absurd (greater-less (rw (f, l) at h))
    | inr g ↦ less-or-more cs ds f g
  ]
]
  where
    greater-equal : Greater ≡ Equal → ⊥
    greater-equal e = cc

    greater-less : Greater ≡ Less → ⊥
    greater-less e = cc

names-take : (i : ℕ) (values : List NamedValue)
    → names_of (values_view (take i values)) ≡ take i (names_of (values_view values))
names-take zero values = refl
names-take (suc i) [] = refl
names-take (suc i) (v ∷ values) = ap (λ ns. v.name ∷ ns) (names-take i values)

names-drop : (i : ℕ) (values : List NamedValue)
    → names_of (values_view (drop i values)) ≡ drop i (names_of (values_view values))
names-drop zero values = refl
names-drop (suc i) [] = refl
names-drop (suc i) (v ∷ values) = names-drop i values

pub order-of-front : (i : ℕ) (values : List NamedValue) → are_in_order (names_of (values_view values)) ≡ true
    → are_in_order (names_of (values_view (take i values))) ≡ true
order-of-front i values o = ap are_in_order (names-take i values) ∙ order-take i (names_of (values_view values)) o

pub order-of-back : (i : ℕ) (values : List NamedValue) → are_in_order (names_of (values_view values)) ≡ true
    → are_in_order (names_of (values_view (drop i values))) ≡ true
order-of-back i values o = ap are_in_order (names-drop i values) ∙ order-drop i (names_of (values_view values)) o

-- the name of the one in this place
name-in : (values : List NamedValue) (i : ℕ) (d : NamedValue) → i < length values
    → slice_get (names_of (values_view values)) i ≡ Some (get_or values i d).name
name-in [] i d h = absurd (omega (arith, h))
name-in (w ∷ values) zero d h = refl
name-in (w ∷ values) (suc i) d h = name-in values i d (omega (arith, h))

pub front-short : (i : ℕ) (values : List NamedValue) → length (take i values) ≤ length values
front-short zero values = omega arith
front-short (suc i) [] = omega arith
front-short (suc i) (v ∷ values) = omega (arith, front-short i values)

pub back-short : (i : ℕ) (values : List NamedValue) → i < length values
    → length (drop (suc i) values) + suc i ≡ length values
back-short i [] h = absurd (omega (arith, h))
back-short zero (v ∷ values) h = omega arith
back-short (suc i) (v ∷ values) h = omega (arith, back-short i values (omega (arith, h)))

pub half-at : (name : Text) (values : List NamedValue) (start i : ℕ) (d : NamedValue) (place : Option ℕ)
    → are_in_order (names_of (values_view values)) ≡ true
    → behind start (place_of name (names_of (values_view values))) ≡ place
    → i < length values → Equal ≡ order_of name (get_or values i d).name
    → Some (start + i) ≡ place
half-at name values start i d place o same h c =
    sym (ap (behind start) (place-at name (names_of (values_view values)) i (get_or values i d).name o (name-in values i d h)
    (order-equal name (get_or values i d).name c))) ∙ same

pub half-front : (name : Text) (values : List NamedValue) (start i : ℕ) (d : NamedValue) (place : Option ℕ)
    → are_in_order (names_of (values_view values)) ≡ true
    → behind start (place_of name (names_of (values_view values))) ≡ place
    → i < length values → Less ≡ order_of name (get_or values i d).name
    → behind start (place_of name (names_of (values_view (take i values)))) ≡ place
half-front name values start i d place o same h c =
    ap (λ ns. behind start (place_of name ns)) (names-take i values)
    ∙ (sym (ap (behind start) (place-before name (names_of (values_view values)) i (get_or values i d).name o (name-in values i d h)
    (order-less name (get_or values i d).name c))) ∙ same)

pub half-back : (name : Text) (values : List NamedValue) (start i : ℕ) (d : NamedValue) (place : Option ℕ)
    → are_in_order (names_of (values_view values)) ≡ true
    → behind start (place_of name (names_of (values_view values))) ≡ place
    → i < length values → Greater ≡ order_of name (get_or values i d).name
    → behind (start + (i + 1)) (place_of name (names_of (values_view (drop (suc i) values)))) ≡ place
half-back name values start i d place o same h c =
    let more : suc i ≡ i + 1 = omega arith in
    ap (λ ns. behind (start + (i + 1)) (place_of name ns)) (names-drop (suc i) values)
    ∙ (ap (λ k. behind (start + k) (place_of name (drop (suc i) (names_of (values_view values))))) (sym more)
    ∙ (sym (behind-behind start (suc i) (place_of name (drop (suc i) (names_of (values_view values)))))
    ∙ (sym (ap (behind start) (place-after name (names_of (values_view values)) i (get_or values i d).name o (name-in values i d h)
    (order-greater name (get_or values i d).name c))) ∙ same)))

pub order-equal-less : (cs ds : Text) → Equal ≡ order_of cs ds → false ≡ is_less_text cs ds
order-equal-less cs ds h =
    sym (ap (is_less_text cs) (sym (same-text cs ds (order-equal cs ds h))) ∙ not-less cs)

pub order-greater-less : (cs ds : Text) → Greater ≡ order_of cs ds → false ≡ is_less_text cs ds
order-greater-less cs ds h = elim (cases_Bool (is_same_text cs ds)) [
  | inl t ↦ absurd (greater-equal (rw t at h))
  | inr f ↦ elim (cases_Bool (is_less_text cs ds)) [
    | inl l ↦ absurd (greater-less (rw (f, l) at h))
    | inr g ↦ sym g
  ]
]
  where
    greater-equal : Greater ≡ Equal → ⊥
    greater-equal e = cc

    greater-less : Greater ≡ Less → ⊥
    greater-less e = cc
