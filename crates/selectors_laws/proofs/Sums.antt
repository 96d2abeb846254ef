-- Sums of specificities, their order, and the greatest of a list.
use Rattle.std.proofs.Common.{arith, eq-eqb, eqb-true, ltb-true, ltb-false, nat_lt, ◌==◌, ◌<◌, ◌≤◌, ◌≢◌, if◌then◌else◌, ◌≡◌, ◌∙◌, ◌⊎◌, ap, sym, subst, refl, inl, inr, ℕ, Some, None, Option, Bool, true, false}
use Rattle.std.proofs.lemmas.Bool.{cases_Bool, false≢true}
use Rattle.std.proofs.lemmas.Option.{none-some, same_Some}
use Rattle.page_model.specs.Document.{Node}
use Rattle.selectors_model.specs.declared.spec.Spec.{Spec}
use Rattle.selectors_model.specs.Matching.{matches}
use Rattle.selectors_model.specs.Selectors.{Compound, no_simples, simple, Selector, SelectorList, no_selectors, selector}
use Rattle.selectors_model.specs.Specificity.{count_sum, spec, spec_sum, is_less_spec, greater_spec, or_greater, simple_specificity, compound_specificity, specificity, greatest_specificity, matching_specificity}
use Rattle.selectors_laws.specs.Lists.{compounds_joined}
use Rattle.selectors_laws.specs.Members.{IsMember}

pub if-true : {X : Type 0} (b : Bool) (x y : X) → b ≡ true → (if b then x else y) ≡ x
if-true true x y e = refl
if-true false x y e = cc

pub if-false : {X : Type 0} (b : Bool) (x y : X) → b ≡ false → (if b then x else y) ≡ y
if-false true x y e = cc
if-false false x y e = refl

count-assoc : (a b c : ℕ) → count_sum (count_sum a b) c ≡ count_sum a (count_sum b c)
count-assoc a b c = omega arith

sum-assoc : (a b c : Spec) → spec_sum (spec_sum a b) c ≡ spec_sum a (spec_sum b c)
sum-assoc a b c = rw (count-assoc a.ids b.ids c.ids, count-assoc a.classes b.classes c.classes, count-assoc a.types b.types c.types) refl

zero-sum : (a b : ℕ) → count_sum 0 (count_sum a b) ≡ count_sum a b
zero-sum a b = omega arith

zero-spec : (d : Compound) → spec_sum (spec 0 0 0) (compound_specificity d) ≡ compound_specificity d
zero-spec no_simples = refl
zero-spec (simple s c) = let a = simple_specificity s in let b = compound_specificity c in
    rw (zero-sum a.ids b.ids, zero-sum a.classes b.classes, zero-sum a.types b.types) refl

pub sum-joined : (c d : Compound) → compound_specificity (compounds_joined c d)
    ≡ spec_sum (compound_specificity c) (compound_specificity d)
sum-joined no_simples d = sym (zero-spec d)
sum-joined (simple s c) d =
    ap (spec_sum (simple_specificity s)) (sum-joined c d)
    ∙ sym (sum-assoc (simple_specificity s) (compound_specificity c) (compound_specificity d))

-- ---- order

level : (m n : ℕ) (rest : Bool) → (if m == n then rest else nat_lt m n) ≡ true → (m < n) ⊎ ((m ≡ n) × (rest ≡ true))
level m n rest e = elim (cases_Bool (m == n)) [
  | inl same ↦ let r : rest ≡ true = sym (if-true (m == n) rest (nat_lt m n) same) ∙ e in inr (eqb-true m n same, r)
  | inr other ↦ let l : nat_lt m n ≡ true = sym (if-false (m == n) rest (nat_lt m n) other) ∙ e in inl (ltb-true m n l)
]

level-not : (m n : ℕ) (rest : Bool) → (if m == n then rest else nat_lt m n) ≡ false → (n < m) ⊎ ((m ≡ n) × (rest ≡ false))
level-not m n rest e = elim (cases_Bool (m == n)) [
  | inl same ↦ let r : rest ≡ false = sym (if-true (m == n) rest (nat_lt m n) same) ∙ e in inr (eqb-true m n same, r)
  | inr other ↦ let l : nat_lt m n ≡ false = sym (if-false (m == n) rest (nat_lt m n) other) ∙ e in
      let k : n ≤ m = ltb-false m n l in
      let ne : m ≢ n = λ q. false≢true (sym other ∙ eq-eqb m n q) in
      inl (omega (arith, k, ne))
]

abbrev IsLess : Spec → Spec → Type 0
IsLess a b = (a.ids < b.ids) ⊎ ((a.ids ≡ b.ids) × ((a.classes < b.classes) ⊎ ((a.classes ≡ b.classes) × (a.types < b.types))))

abbrev IsNotLess : Spec → Spec → Type 0
IsNotLess a b = (b.ids < a.ids) ⊎ ((a.ids ≡ b.ids) × ((b.classes < a.classes) ⊎ ((a.classes ≡ b.classes) × (b.types ≤ a.types))))

abbrev classes_less : Spec → Spec → Bool
classes_less a b = if a.classes == b.classes then nat_lt a.types b.types else nat_lt a.classes b.classes

less : (a b : Spec) → is_less_spec a b ≡ true → IsLess a b
less a b e = elim (level a.ids b.ids (classes_less a b) e) [
  | inl l ↦ inl l
  | inr r ↦ elim (level a.classes b.classes (nat_lt a.types b.types) r.1) [
    | inl l ↦ inr (r.0, inl l)
    | inr q ↦ inr (r.0, inr (q.0, ltb-true a.types b.types q.1))
  ]
]

not-less : (a b : Spec) → is_less_spec a b ≡ false → IsNotLess a b
not-less a b e = elim (level-not a.ids b.ids (classes_less a b) e) [
  | inl l ↦ inl l
  | inr r ↦ elim (level-not a.classes b.classes (nat_lt a.types b.types) r.1) [
    | inl l ↦ inr (r.0, inl l)
    | inr q ↦ inr (r.0, inr (q.0, ltb-false a.types b.types q.1))
  ]
]

less-self : (a : Spec) → is_less_spec a a ≡ false
less-self a = elim (cases_Bool (is_less_spec a a)) [
  | inl t ↦ let l : IsLess a a = less a a t in absurd (omega (arith, l))
  | inr f ↦ f
]

at-most : (a b c : Spec) → is_less_spec a b ≡ false → is_less_spec b c ≡ false → is_less_spec a c ≡ false
at-most a b c d e = elim (cases_Bool (is_less_spec a c)) [
  | inl t ↦ let l : IsLess a c = less a c t in
      let m : IsNotLess a b = not-less a b d in
      let n : IsNotLess b c = not-less b c e in
      absurd (omega (arith, l, m, n))
  | inr f ↦ f
]

less-not : (a b : Spec) → is_less_spec a b ≡ true → is_less_spec b a ≡ false
less-not a b e = elim (cases_Bool (is_less_spec b a)) [
  | inl t ↦ let l : IsLess b a = less b a t in
      let m : IsLess a b = less a b e in
      absurd (omega (arith, l, m))
  | inr f ↦ f
]

greater-left : (a b : Spec) → is_less_spec (greater_spec a b) a ≡ false
greater-left a b = elim (cases_Bool (is_less_spec a b)) [
  | inl e ↦ rw e (less-not a b e)
  | inr e ↦ rw e (less-self a)
]

greater-right : (a b c : Spec) → is_less_spec b c ≡ false → is_less_spec (greater_spec a b) c ≡ false
greater-right a b c d = elim (cases_Bool (is_less_spec a b)) [
  | inl e ↦ rw e d
  | inr e ↦ rw e (at-most a b c e d)
]

pub greatest-upper : (list : SelectorList) (s : Selector) → IsMember s list
    → is_less_spec (greatest_specificity list) (specificity s) ≡ false
greatest-upper no_selectors s m = absurd m
greatest-upper (selector t list) s m = elim m [
  | inl same ↦ subst (λ (r : Selector). is_less_spec (greater_spec (specificity t) (greatest_specificity list)) (specificity r) ≡ false)
      (sym same) (greater-left (specificity t) (greatest_specificity list))
  | inr below ↦ greater-right (specificity t) (greatest_specificity list) (specificity s) (greatest-upper list s below)
]

-- ---- of a list, for an element

greater-some : (a : Spec) (b : Option Spec) → or_greater a b ≡ None → ⊥
greater-some a None e = none-some a (sym e)
greater-some a (Some b) e = none-some (greater_spec a b) (sym e)

pub none-matches : (root : Node) (list : SelectorList) (i : ℕ) (s : Selector)
    → matching_specificity root list i ≡ None → IsMember s list → matches root s i ≡ false
none-matches root no_selectors i s e m = absurd m
none-matches root (selector t list) i s e m = elim (cases_Bool (matches root t i)) [
  | inl on ↦ let f : or_greater (specificity t) (matching_specificity root list i) ≡ None = sym (if-true (matches root t i) (or_greater (specificity t) (matching_specificity root list i)) (matching_specificity root list i) on) ∙ e in
      absurd (greater-some (specificity t) (matching_specificity root list i) f)
  | inr off ↦ let f : matching_specificity root list i ≡ None = sym (if-false (matches root t i) (or_greater (specificity t) (matching_specificity root list i)) (matching_specificity root list i) off) ∙ e in elim m [
    | inl same ↦ subst (λ (r : Selector). matches root r i ≡ false) (sym same) off
    | inr below ↦ none-matches root list i s f below
  ]
]

or-left : (t : Spec) (rest : Option Spec) (a : Spec) → or_greater t rest ≡ Some a → is_less_spec a t ≡ false
or-left t None a e = subst (λ (r : Spec). is_less_spec r t ≡ false) (same_Some t a e) (less-self t)
or-left t (Some b) a e = subst (λ (r : Spec). is_less_spec r t ≡ false) (same_Some (greater_spec t b) a e) (greater-left t b)

or-right : (t b a c : Spec) → or_greater t (Some b) ≡ Some a → is_less_spec b c ≡ false → is_less_spec a c ≡ false
or-right t b a c e d = subst (λ (r : Spec). is_less_spec r c ≡ false) (same_Some (greater_spec t b) a e) (greater-right t b c d)

some-or-none : (o : Option Spec) → (o ≡ None) ⊎ ((b : Spec) × (o ≡ Some b))
some-or-none None = inl refl
some-or-none (Some b) = inr (b, refl)

pub upper : (root : Node) (list : SelectorList) (i : ℕ) (a : Spec) (s : Selector)
    → matching_specificity root list i ≡ Some a → IsMember s list → matches root s i ≡ true
    → is_less_spec a (specificity s) ≡ false
upper root no_selectors i a s e m y = absurd m
upper root (selector t list) i a s e m y = elim (cases_Bool (matches root t i)) [
  | inl on ↦ let f : or_greater (specificity t) (matching_specificity root list i) ≡ Some a = sym (if-true (matches root t i) (or_greater (specificity t) (matching_specificity root list i)) (matching_specificity root list i) on) ∙ e in elim m [
    | inl same ↦ subst (λ (r : Selector). is_less_spec a (specificity r) ≡ false) (sym same)
        (or-left (specificity t) (matching_specificity root list i) a f)
    | inr below ↦ elim (some-or-none (matching_specificity root list i)) [
      | inl n ↦ absurd (false≢true (sym (none-matches root list i s n below) ∙ y))
      | inr q ↦ let g : or_greater (specificity t) (Some q.0) ≡ Some a =
          subst (λ (o : Option Spec). or_greater (specificity t) o ≡ Some a) q.1 f in
          or-right (specificity t) q.0 a (specificity s) g (upper root list i q.0 s q.1 below y)
    ]
  ]
  | inr off ↦ let f : matching_specificity root list i ≡ Some a = sym (if-false (matches root t i) (or_greater (specificity t) (matching_specificity root list i)) (matching_specificity root list i) off) ∙ e in elim m [
    | inl same ↦ absurd (false≢true (sym off ∙ subst (λ (r : Selector). matches root r i ≡ true) same y))
    | inr below ↦ upper root list i a s f below y
  ]
]

abbrev Reached : Node → SelectorList → ℕ → Spec → Type 0
Reached root list i a = (s : Selector) × IsMember s list × (matches root s i ≡ true) × (specificity s ≡ a)

reached-below : (root : Node) (t : Selector) (list : SelectorList) (i : ℕ) (a : Spec)
    → Reached root list i a → Reached root (selector t list) i a
reached-below root t list i a r = (r.0, inr r.1, r.2, r.3)

reached-greater : (root : Node) (t : Selector) (list : SelectorList) (i : ℕ) (b : Spec) → matches root t i ≡ true
    → Reached root list i b → Reached root (selector t list) i (greater_spec (specificity t) b)
reached-greater root t list i b on r = elim (cases_Bool (is_less_spec (specificity t) b)) [
  | inl l ↦ rw l (reached-below root t list i b r)
  | inr l ↦ rw l (t, inl refl, on, refl)
]

pub reached : (root : Node) (list : SelectorList) (i : ℕ) (a : Spec)
    → matching_specificity root list i ≡ Some a → Reached root list i a
reached root no_selectors i a e = absurd (none-some a e)
reached root (selector t list) i a e = elim (cases_Bool (matches root t i)) [
  | inl on ↦ let f : or_greater (specificity t) (matching_specificity root list i) ≡ Some a = sym (if-true (matches root t i) (or_greater (specificity t) (matching_specificity root list i)) (matching_specificity root list i) on) ∙ e in
      elim (some-or-none (matching_specificity root list i)) [
        | inl n ↦ let g : or_greater (specificity t) None ≡ Some a =
            subst (λ (o : Option Spec). or_greater (specificity t) o ≡ Some a) n f in
            (t, inl refl, on, same_Some (specificity t) a g)
        | inr q ↦ let g : or_greater (specificity t) (Some q.0) ≡ Some a =
            subst (λ (o : Option Spec). or_greater (specificity t) o ≡ Some a) q.1 f in
            subst (Reached root (selector t list) i) (same_Some (greater_spec (specificity t) q.0) a g)
            (reached-greater root t list i q.0 on (reached root list i q.0 q.1))
      ]
  | inr off ↦ let f : matching_specificity root list i ≡ Some a = sym (if-false (matches root t i) (or_greater (specificity t) (matching_specificity root list i)) (matching_specificity root list i) off) ∙ e in
      reached-below root t list i a (reached root list i a f)
]
