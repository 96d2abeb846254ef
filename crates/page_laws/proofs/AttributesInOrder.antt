-- The attributes of an element, in the order of their names.
use Rattle.std.proofs.Common.{Bool, List, None, Some, [], ap, arith, cond, eq-eqb, eqb-true, false, inl, inr, lt-ltb, ltb-false, ltb-true, ne_eqb, refl, sym, true, ◌<◌, ◌==◌, ◌∙◌, ◌∷◌, ◌≡◌, ◌≤◌}
use Rattle.std.proofs.lemmas.Bool.{cases_Bool, eqb-false, false≢true}
use Rattle.page_laws.proofs.Options.{both-true}
use Rattle.page_model.specs.Attributes.{are_in_order, is_less_text, is_same_text, value_of, with_attribute, without_attribute}
use Rattle.page_model.specs.Trees.{Attribute, Text}

-- ---- texts

pub same-text : (cs ds : Text) → is_same_text cs ds ≡ true → cs ≡ ds
same-text [] [] h = refl
same-text [] (d ∷ ds) h = absurd (false≢true h)
same-text (c ∷ cs) [] h = absurd (false≢true h)
same-text (c ∷ cs) (d ∷ ds) h =
    let parts = both-true (c == d) (is_same_text cs ds) h in
    λ j. eqb-true c d parts.0 j ∷ same-text cs ds parts.1 j

pub text-same : (cs : Text) → is_same_text cs cs ≡ true
text-same [] = refl
text-same (c ∷ cs) = rw (eq-eqb c c refl) (text-same cs)

pub other-text : (cs ds : Text) → (cs ≡ ds → ⊥) → is_same_text cs ds ≡ false
other-text cs ds h = elim (cases_Bool (is_same_text cs ds)) [
  | inl t ↦ absurd (h (same-text cs ds t))
  | inr f ↦ f
]

-- of two texts one is less, or they are the same
pub less-or-more : (cs ds : Text) → is_same_text cs ds ≡ false → is_less_text cs ds ≡ false → is_less_text ds cs ≡ true
less-or-more [] [] h k = absurd (false≢true (sym h))
less-or-more [] (d ∷ ds) h k = absurd (false≢true (sym k))
less-or-more (c ∷ cs) [] h k = refl
less-or-more (c ∷ cs) (d ∷ ds) h k = elim (cases_Bool (c == d)) [
  | inl t ↦ rw (eq-eqb d c (sym (eqb-true c d t))) (less-or-more cs ds (rw t at h) (rw t at k))
  | inr f ↦
      let ne : c ≡ d → ⊥ = eqb-false c d f in
      let le : d ≤ c = ltb-false c d (rw f at k) in
      let lt : d < c = omega (arith, le, ne) in
      rw (ne_eqb d c (λ e. ne (sym e)), lt-ltb d c lt) refl
]

pub less-then-less : (cs ds es : Text) → is_less_text cs ds ≡ true → is_less_text ds es ≡ true → is_less_text cs es ≡ true
less-then-less [] [] es h k = absurd (false≢true h)
less-then-less [] (d ∷ ds) [] h k = absurd (false≢true k)
less-then-less [] (d ∷ ds) (e ∷ es) h k = refl
less-then-less (c ∷ cs) [] es h k = absurd (false≢true h)
less-then-less (c ∷ cs) (d ∷ ds) [] h k = absurd (false≢true k)
less-then-less (c ∷ cs) (d ∷ ds) (e ∷ es) h k = elim (cases_Bool (c == d)) [
  | inl t ↦ elim (cases_Bool (d == e)) [
    | inl u ↦
        let ce : c ≡ e = eqb-true c d t ∙ eqb-true d e u in
        rw (eq-eqb c e ce) (less-then-less cs ds es (rw t at h) (rw u at k))
    | inr u ↦
        let lt : d < e = ltb-true d e (rw u at k) in
        let cd : c ≡ d = eqb-true c d t in
        let ne : c ≡ e → ⊥ = λ q. omega (arith, lt, cd, q) in
        rw (ne_eqb c e ne, lt-ltb c e (omega (arith, lt, cd))) refl
  ]
  | inr t ↦
      let lt : c < d = ltb-true c d (rw t at h) in
      elim (cases_Bool (d == e)) [
        | inl u ↦
            let de : d ≡ e = eqb-true d e u in
            let ne : c ≡ e → ⊥ = λ q. omega (arith, lt, de, q) in
            rw (ne_eqb c e ne, lt-ltb c e (omega (arith, lt, de))) refl
        | inr u ↦
            let more : d < e = ltb-true d e (rw u at k) in
            let ne : c ≡ e → ⊥ = λ q. omega (arith, lt, more, q) in
            rw (ne_eqb c e ne, lt-ltb c e (omega (arith, lt, more))) refl
      ]
]

-- ---- what is set

pub value-set : (name value : Text) (attributes : List Attribute) → value_of name (with_attribute name value attributes) ≡ Some value
value-set name value [] = rw (text-same name) refl
value-set name value (a ∷ attributes) = elim (cases_Bool (is_same_text name a.0)) [
  | inl t ↦ rw (t, text-same name) refl
  | inr f ↦ elim (cases_Bool (is_less_text name a.0)) [
    | inl t ↦ rw (f, t, text-same name) refl
    | inr g ↦ rw (f, g, f) (value-set name value attributes)
  ]
]

pub value-other : (name value other : Text) (attributes : List Attribute) → (other ≡ name → ⊥) → value_of other (with_attribute name value attributes) ≡ value_of other attributes
value-other name value other [] h = rw (other-text other name h) refl
value-other name value other (a ∷ attributes) h = elim (cases_Bool (is_same_text name a.0)) [
  | inl t ↦
      let ne : is_same_text other a.0 ≡ false = other-text other a.0 (λ e. h (e ∙ sym (same-text name a.0 t))) in
      rw (t, other-text other name h, ne) refl
  | inr f ↦ elim (cases_Bool (is_less_text name a.0)) [
    | inl t ↦ rw (f, t, other-text other name h) refl
    | inr g ↦ rw (f, g) (ap (λ o. cond (is_same_text other a.0) (Some a.1) o) (value-other name value other attributes h))
  ]
]

-- ---- what is dropped

pub value-dropped : (name : Text) (attributes : List Attribute) → value_of name (without_attribute name attributes) ≡ None
value-dropped name [] = refl
value-dropped name (a ∷ attributes) = elim (cases_Bool (is_same_text name a.0)) [
  | inl t ↦ rw t (value-dropped name attributes)
  | inr f ↦ rw (f, f) (value-dropped name attributes)
]

pub value-left : (name other : Text) (attributes : List Attribute) → (other ≡ name → ⊥) → value_of other (without_attribute name attributes) ≡ value_of other attributes
value-left name other [] h = refl
value-left name other (a ∷ attributes) h = elim (cases_Bool (is_same_text name a.0)) [
  | inl t ↦
      let ne : is_same_text other a.0 ≡ false = other-text other a.0 (λ e. h (e ∙ sym (same-text name a.0 t))) in
      rw (t, ne) (value-left name other attributes h)
  | inr f ↦ rw f (ap (λ o. cond (is_same_text other a.0) (Some a.1) o) (value-left name other attributes h))
]

-- ---- order

-- a name that is less than those of a list in order, where it has any
abbrev pub leads : Text → List Attribute → Bool
leads name [] = true
leads name (a ∷ attributes) = is_less_text name a.0

order-cons : (a : Attribute) (attributes : List Attribute) → leads a.0 attributes ≡ true → are_in_order attributes ≡ true → are_in_order (a ∷ attributes) ≡ true
order-cons a [] h k = refl
order-cons a (b ∷ attributes) h k = rw h k

pub order-tail : (a : Attribute) (attributes : List Attribute) → are_in_order (a ∷ attributes) ≡ true → are_in_order attributes ≡ true
order-tail a [] h = refl
order-tail a (b ∷ attributes) h = (both-true (is_less_text a.0 b.0) (are_in_order (b ∷ attributes)) h).1

order-leads : (a : Attribute) (attributes : List Attribute) → are_in_order (a ∷ attributes) ≡ true → leads a.0 attributes ≡ true
order-leads a [] h = refl
order-leads a (b ∷ attributes) h = (both-true (is_less_text a.0 b.0) (are_in_order (b ∷ attributes)) h).0

leads-with : (name value n : Text) (attributes : List Attribute) → leads n attributes ≡ true → is_less_text n name ≡ true → leads n (with_attribute name value attributes) ≡ true
leads-with name value n [] h k = k
leads-with name value n (a ∷ attributes) h k = elim (cases_Bool (is_same_text name a.0)) [
  | inl t ↦ rw t k
  | inr f ↦ elim (cases_Bool (is_less_text name a.0)) [
    | inl t ↦ rw (f, t) k
    | inr g ↦ rw (f, g) h
  ]
]

pub order-with : (name value : Text) (attributes : List Attribute) → are_in_order attributes ≡ true → are_in_order (with_attribute name value attributes) ≡ true
order-with name value [] h = refl
order-with name value (a ∷ attributes) h = elim (cases_Bool (is_same_text name a.0)) [
  | inl t ↦ rw t (order-cons (name, value) attributes (rw (same-text name a.0 t) (order-leads a attributes h)) (order-tail a attributes h))
  | inr f ↦ elim (cases_Bool (is_less_text name a.0)) [
    | inl t ↦ rw (f, t) (order-cons (name, value) (a ∷ attributes) t h)
    | inr g ↦ rw (f, g) (order-cons a (with_attribute name value attributes) (leads-with name value a.0 attributes (order-leads a attributes h) (less-or-more name a.0 f g)) (order-with name value attributes (order-tail a attributes h)))
  ]
]

leads-through : (n : Text) (a : Attribute) (attributes : List Attribute) → is_less_text n a.0 ≡ true → leads a.0 attributes ≡ true → leads n attributes ≡ true
leads-through n a [] h k = refl
leads-through n a (b ∷ attributes) h k = less-then-less n a.0 b.0 h k

leads-without : (name n : Text) (attributes : List Attribute) → are_in_order attributes ≡ true → leads n attributes ≡ true → leads n (without_attribute name attributes) ≡ true
leads-without name n [] o h = h
leads-without name n (a ∷ attributes) o h = elim (cases_Bool (is_same_text name a.0)) [
  | inl t ↦ rw t (leads-without name n attributes (order-tail a attributes o) (leads-through n a attributes h (order-leads a attributes o)))
  | inr f ↦ rw f h
]

pub order-without : (name : Text) (attributes : List Attribute) → are_in_order attributes ≡ true → are_in_order (without_attribute name attributes) ≡ true
order-without name [] h = refl
order-without name (a ∷ attributes) h = elim (cases_Bool (is_same_text name a.0)) [
  | inl t ↦ rw t (order-without name attributes (order-tail a attributes h))
  | inr f ↦ rw f (order-cons a (without_attribute name attributes) (leads-without name a.0 attributes (order-tail a attributes h) (order-leads a attributes h)) (order-without name attributes (order-tail a attributes h)))
]
