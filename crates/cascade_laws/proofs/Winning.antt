-- The winner.
use Rattle.std.proofs.Common.{◌≡◌, ◌≢◌, ◌⊎◌, ◌∙◌, ap, sym, refl, subst, ℕ, zero, suc, ◌==◌, ◌<◌, nat_lt, if◌then◌else◌, List, [], ◌∷◌, true, false, inl, inr, arith}
use Rattle.std.specs.Prelude.{Option, Some, None, is_some, unwrap_or}
use Rattle.std.specs.List.{slice_get}
use Rattle.std.proofs.lemmas.Bool.{cases_Bool, eqb-false, eqb-true, false≢true}
use Rattle.std.proofs.lemmas.Bool.Decides.{nat_tests}
use Rattle.cascade_model.specs.Applied.{Applied}
use Rattle.cascade_model.specs.Kept.{Target, is_same_target}
use Rattle.cascade_model.specs.Order.{is_stronger, outranks, IsWinner, winner, stronger_of}
use Rattle.cascade_laws.specs.Winners.{Beats}
use Rattle.cascade_laws.proofs.Targets.{same-target, target-same}
use Rattle.cascade_laws.proofs.Strength.{stronger-one_way, stronger-between}

-- ---- the order

beats-stronger : (d e : Applied) (m n : ℕ) → is_stronger d e ≡ true → Beats d m e n
beats-stronger d e m n s = record {
  first = rw s refl;
  second = rw (stronger-one_way d e s, s) refl;
}

beats-later : (d e : Applied) (m n : ℕ) → is_stronger d e ≡ false → is_stronger e d ≡ false → n < m → Beats d m e n
beats-later d e m n s t l =
    let later : nat_lt n m ≡ true = grind (arith, nat_tests, l) in
    let earlier : nat_lt m n ≡ false = grind (arith, nat_tests, l) in
    record {
      first = rw (s, t, later) refl;
      second = rw (t, s, earlier) refl;
    }

pub in-order : (d e : Applied) (m n : ℕ) → m ≢ n → Beats d m e n ⊎ Beats e n d m
in-order d e m n different = elim (cases_Bool (is_stronger d e)) [
  | inl s ↦ inl (beats-stronger d e m n s)
  | inr s ↦ elim (cases_Bool (is_stronger e d)) [
    | inl t ↦ inr (beats-stronger e d n m t)
    | inr t ↦ elim (cases_Bool (nat_lt n m)) [
      | inl l ↦ inl (beats-later d e m n s t (grind (arith, nat_tests, l)))
      | inr l ↦ inr (beats-later e d n m t s (grind (arith, nat_tests, l, different)))
    ]
  ]
]

-- ---- one winner

differs : (m n : ℕ) → (m == n) ≡ false → m ≢ n
differs m n f e = eqb-false m n f e

pub one-winner : (ds : List Applied) (t : Target) (m n : ℕ) (d e : Applied)
    → IsWinner ds t m d → IsWinner ds t n e → m ≡ n
one-winner ds t m n d e w v = elim (cases_Bool (m == n)) [
  | inl t ↦ eqb-true m n t
  | inr f ↦ elim (in-order d e m n (differs m n f)) [
    | inl b ↦ absurd (false≢true (sym (v.not_outranked m d w.stands w.of_target) ∙ b.first))
    | inr b ↦ absurd (false≢true (sym (w.not_outranked n e v.stands v.of_target) ∙ b.first))
  ]
]

-- ---- what is found

same-some : (d e : Applied) → Some d ≡ Some e → d ≡ e
same-some d e g = ap (λ o. unwrap_or o d) g

stronger-some : (d : Applied) (o : Option Applied) → is_some (stronger_of d o) ≡ true
stronger-some d None = refl
stronger-some d (Some e) = elim (cases_Bool (is_stronger d e)) [
  | inl s ↦ rw s refl
  | inr s ↦ rw s refl
]

-- the first declaration of a list by itself
winner-first : (t : Target) (d : Applied) (ds : List Applied) → is_same_target t d.target ≡ true
    → winner t (d ∷ ds) ≡ stronger_of d (winner t ds)
winner-first t d ds h = rw h refl

winner-other : (t : Target) (d : Applied) (ds : List Applied) → is_same_target t d.target ≡ false
    → winner t (d ∷ ds) ≡ winner t ds
winner-other t d ds h = rw h refl

pub none-placed : (ds : List Applied) (t : Target) (n : ℕ) (e : Applied)
    → winner t ds ≡ None → slice_get ds n ≡ Some e → is_same_target t e.target ≡ false
none-placed [] t n e w g = absurd (false≢true (ap is_some g))
none-placed (d ∷ ds) t zero e w g =
    let same : d ≡ e = same-some d e g in
    elim (cases_Bool (is_same_target t d.target)) [
      | inl h ↦ absurd (false≢true (sym (ap is_some w) ∙ (ap is_some (winner-first t d ds h) ∙ stronger-some d (winner t ds))))
      | inr h ↦ ap (λ x. is_same_target t x.target) (sym same) ∙ h
    ]
none-placed (d ∷ ds) t (suc n) e w g = elim (cases_Bool (is_same_target t d.target)) [
  | inl h ↦ absurd (false≢true (sym (ap is_some w) ∙ (ap is_some (winner-first t d ds h) ∙ stronger-some d (winner t ds))))
  | inr h ↦ none-placed ds t n e (sym (winner-other t d ds h) ∙ w) g
]

-- a declaration does not outrank itself
not-itself : (d : Applied) (n : ℕ) → outranks d n d n ≡ false
not-itself d n =
    let no_later : nat_lt n n ≡ false = grind (arith, nat_tests) in
    elim (cases_Bool (is_stronger d d)) [
      | inl s ↦ absurd (false≢true (sym (stronger-one_way d d s) ∙ s))
      | inr s ↦ rw (s, no_later) refl
    ]

later-behind : (m n : ℕ) → nat_lt (suc m) (suc n) ≡ nat_lt m n
later-behind m n = grind (arith, nat_tests)

none-before : (n : ℕ) → nat_lt (suc n) 0 ≡ false
none-before n = grind (arith, nat_tests)

-- what the one behind does not outrank, one more in front does not let it outrank
not-outranked-behind : (d e : Applied) (m n : ℕ) → outranks e n d m ≡ false → outranks e (suc n) d (suc m) ≡ false
not-outranked-behind d e m n h =
    ap (λ l. if is_stronger e d then true else if is_stronger d e then false else l) (later-behind m n) ∙ h

-- what outranks neither is not stronger
not-stronger : (d e : Applied) (m n : ℕ) → outranks e n d m ≡ false → is_stronger e d ≡ false
not-stronger d e m n h = elim (cases_Bool (is_stronger e d)) [
  | inl s ↦ absurd (false≢true (sym h ∙ rw s refl))
  | inr s ↦ s
]

-- the first of a list is not outranked by one that is weaker
not-by-weaker : (d e : Applied) (n : ℕ) → is_stronger d e ≡ true → outranks e (suc n) d 0 ≡ false
not-by-weaker d e n s = rw (stronger-one_way d e s, s) refl

-- one that stands first and is not stronger does not outrank
not-by-first : (d e : Applied) (n : ℕ) → is_stronger d e ≡ false → outranks d 0 e (suc n) ≡ false
not-by-first d e n s = elim (cases_Bool (is_stronger e d)) [
  | inl t ↦ rw (s, t) refl
  | inr t ↦ rw (s, t, none-before n) refl
]

-- ---- the winner of a list with one more in front

-- the one in front, where nothing after it is of the property
first-alone : (t : Target) (d : Applied) (ds : List Applied) → is_same_target t d.target ≡ true → winner t ds ≡ None
    → IsWinner (d ∷ ds) t 0 d
first-alone t d ds h w = record {
  stands = refl;
  of_target = sym (same-target t d.target h);
  not_outranked = others;
}
  where
    others : (n : ℕ) (e : Applied) → slice_get (d ∷ ds) n ≡ Some e → e.target ≡ t
        → outranks e n d 0 ≡ false
    others zero e g same = ap (λ x. outranks x 0 d 0) (sym (same-some d e g)) ∙ not-itself d 0
    others (suc n) e g same = absurd (false≢true (sym (none-placed ds t n e w g) ∙ target-same t e.target (sym same)))

-- the one in front, where it is stronger than the winner of those after it
first-stronger : (t : Target) (d e : Applied) (ds : List Applied) (k : ℕ) → is_same_target t d.target ≡ true
    → IsWinner ds t k e → is_stronger d e ≡ true → IsWinner (d ∷ ds) t 0 d
first-stronger t d e ds k h w s = record {
  stands = refl;
  of_target = sym (same-target t d.target h);
  not_outranked = others;
}
  where
    others : (n : ℕ) (f : Applied) → slice_get (d ∷ ds) n ≡ Some f → f.target ≡ t
        → outranks f n d 0 ≡ false
    others zero f g same = ap (λ x. outranks x 0 d 0) (sym (same-some d f g)) ∙ not-itself d 0
    others (suc n) f g same =
        not-by-weaker d f n (stronger-between d e f s (not-stronger e f k n (w.not_outranked n f g same)))

-- the winner of those after it, where the one in front is not stronger
behind-first : (t : Target) (d e : Applied) (ds : List Applied) (k : ℕ) → IsWinner ds t k e
    → is_stronger d e ≡ false → IsWinner (d ∷ ds) t (suc k) e
behind-first t d e ds k w s = record {
  stands = w.stands;
  of_target = w.of_target;
  not_outranked = others;
}
  where
    others : (n : ℕ) (f : Applied) → slice_get (d ∷ ds) n ≡ Some f → f.target ≡ t
        → outranks f n e (suc k) ≡ false
    others zero f g same = ap (λ x. outranks x 0 e (suc k)) (sym (same-some d f g)) ∙ not-by-first d e k s
    others (suc n) f g same = not-outranked-behind e f k n (w.not_outranked n f g same)

-- the winner of those after it, where the one in front is of another property
behind-other : (t : Target) (d e : Applied) (ds : List Applied) (k : ℕ) → IsWinner ds t k e
    → is_same_target t d.target ≡ false → IsWinner (d ∷ ds) t (suc k) e
behind-other t d e ds k w h = record {
  stands = w.stands;
  of_target = w.of_target;
  not_outranked = others;
}
  where
    others : (n : ℕ) (f : Applied) → slice_get (d ∷ ds) n ≡ Some f → f.target ≡ t
        → outranks f n e (suc k) ≡ false
    others zero f g same =
        absurd (false≢true (sym h ∙ (ap (λ x. is_same_target t x.target) (same-some d f g) ∙ target-same t f.target (sym same))))
    others (suc n) f g same = not-outranked-behind e f k n (w.not_outranked n f g same)

-- ---- the winner is found

-- where the first is of the property, by what is found after it
found-first : (o : Option Applied) (t : Target) (d e : Applied) (ds : List Applied) → is_same_target t e.target ≡ true
    → winner t ds ≡ o → ((f : Applied) → winner t ds ≡ Some f → (n : ℕ) × IsWinner ds t n f)
    → stronger_of e o ≡ Some d → (n : ℕ) × IsWinner (e ∷ ds) t n d
found-first None t d e ds h w behind g =
    (0, subst (λ x. IsWinner (e ∷ ds) t 0 x) (same-some e d g) (first-alone t e ds h w))
found-first (Some f) t d e ds h w behind g = elim (cases_Bool (is_stronger e f)) [
  | inl s ↦
      let picked : Some e ≡ Some d = sym (ap (λ b. if b then Some e else Some f) s) ∙ g in (
        0,
        subst (λ x. IsWinner (e ∷ ds) t 0 x) (same-some e d picked)
            (first-stronger t e f ds (behind f w).0 h (behind f w).1 s),
      )
  | inr s ↦
      let picked : Some f ≡ Some d = sym (ap (λ b. if b then Some e else Some f) s) ∙ g in (
        suc (behind f w).0,
        subst (λ x. IsWinner (e ∷ ds) t (suc (behind f w).0) x) (same-some f d picked)
            (behind-first t e f ds (behind f w).0 (behind f w).1 s),
      )
]

pub found : (ds : List Applied) (t : Target) (d : Applied) → winner t ds ≡ Some d → (n : ℕ) × IsWinner ds t n d
found [] t d w = absurd (false≢true (ap is_some w))
found (e ∷ ds) t d w = elim (cases_Bool (is_same_target t e.target)) [
  | inl h ↦ found-first (winner t ds) t d e ds h refl (found ds t) (sym (winner-first t e ds h) ∙ w)
  | inr h ↦
      let behind : (n : ℕ) × IsWinner ds t n d = found ds t d (sym (winner-other t e ds h) ∙ w) in
      (suc behind.0, behind-other t e d ds behind.0 behind.1 h)
]

-- where nothing is found, none is of the property
pub none-of : (ds : List Applied) (t : Target) (n : ℕ) (e : Applied)
    → winner t ds ≡ None → slice_get ds n ≡ Some e → e.target ≢ t
none-of ds t n e w g same = false≢true (sym (none-placed ds t n e w g) ∙ target-same t e.target (sym same))
