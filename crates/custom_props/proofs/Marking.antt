-- Marks of places, and a search by marks.
use Rattle.std.proofs.Common.{◌≡◌, ◌∙◌, ◌⊎◌, ◌↔◌, ap, sym, refl, subst, ℕ, zero, suc, ◌+◌, ◌<◌, List, [], ◌∷◌, ◌++◌, length, length-append, get_or, take, add-one, Bool, true, false, inl, inr, None, arith}
use Rattle.std.specs.Prelude.{replicate, slice_get, slice_set}
use Rattle.std.proofs.lemmas.Bool.{false≢true}
use Rattle.std.proofs.lemmas.Option.{none-some}
use Rattle.custom_props.specs.inner.Graphs.{Graph, IsIn, Leads, at_once, by_way, Marks, Searches, is_marked, successors, unmarked}

-- ---- lists

pub in-left : (x : ℕ) (ys zs : List ℕ) → IsIn x ys → IsIn x (ys ++ zs)
in-left x [] zs i = absurd i
in-left x (y ∷ ys) zs (inl e) = inl e
in-left x (y ∷ ys) zs (inr i) = inr (in-left x ys zs i)

pub in-right : (x : ℕ) (ys zs : List ℕ) → IsIn x zs → IsIn x (ys ++ zs)
in-right x [] zs i = i
in-right x (y ∷ ys) zs i = inr (in-right x ys zs i)

pub in-split : (x : ℕ) (ys zs : List ℕ) → IsIn x (ys ++ zs) → IsIn x ys ⊎ IsIn x zs
in-split x [] zs i = inr i
in-split x (y ∷ ys) zs (inl e) = inl (inl e)
in-split x (y ∷ ys) zs (inr i) = elim (in-split x ys zs i) [
  | inl a ↦ inl (inr a)
  | inr b ↦ inr b
]

-- ---- one mark more

pub set-length : (marks : List Bool) (x : ℕ) → length (slice_set marks x true) ≡ length marks
set-length [] x = refl
set-length (m ∷ marks) zero = refl
set-length (m ∷ marks) (suc x) = ap suc (set-length marks x)

pub set-kept : (marks : List Bool) (x y : ℕ) → is_marked marks y ≡ true → is_marked (slice_set marks x true) y ≡ true
set-kept [] x y h = absurd (false≢true h)
set-kept (m ∷ marks) zero zero h = refl
set-kept (m ∷ marks) zero (suc y) h = h
set-kept (m ∷ marks) (suc x) zero h = h
set-kept (m ∷ marks) (suc x) (suc y) h = set-kept marks x y h

pub set-at : (marks : List Bool) (x : ℕ) → x < length marks → is_marked (slice_set marks x true) x ≡ true
set-at [] x h = absurd (omega (arith, h))
set-at (m ∷ marks) zero h = refl
set-at (m ∷ marks) (suc x) h = set-at marks x (omega (arith, h))

pub set-only : (marks : List Bool) (x y : ℕ) → is_marked (slice_set marks x true) y ≡ true
    → (is_marked marks y ≡ true) ⊎ (y ≡ x)
set-only [] x y h = absurd (false≢true h)
set-only (m ∷ marks) zero zero h = inr refl
set-only (m ∷ marks) zero (suc y) h = inl h
set-only (m ∷ marks) (suc x) zero h = inl h
set-only (m ∷ marks) (suc x) (suc y) h = elim (set-only marks x y h) [
  | inl a ↦ inl a
  | inr e ↦ inr (ap suc e)
]

pub set-fewer : (marks : List Bool) (x : ℕ) → x < length marks → is_marked marks x ≡ false
    → suc (unmarked (slice_set marks x true)) ≡ unmarked marks
set-fewer [] x h f = absurd (omega (arith, h))
set-fewer (true ∷ marks) zero h f = absurd (false≢true (sym f))
set-fewer (false ∷ marks) zero h f = refl
set-fewer (true ∷ marks) (suc x) h f = set-fewer marks x (omega (arith, h)) f
set-fewer (false ∷ marks) (suc x) h f = ap suc (set-fewer marks x (omega (arith, h)) f)

-- ---- places that are marked

pub marks_none : (marks : List Bool) (waiting : List ℕ) → Marks [] marks waiting marks waiting
marks_none marks waiting = record {
  same_length = refl;
  kept = λ y h. h;
  all = λ y i. absurd i;
  only = λ y h. inl h;
  still = λ y i. i;
  more = λ y i. inl i;
  fewer = refl;
}

pub marks_old : (x : ℕ) (marks : List Bool) (waiting : List ℕ) → is_marked marks x ≡ true
    → Marks (x ∷ []) marks waiting marks waiting
marks_old x marks waiting t = record {
  same_length = refl;
  kept = λ y h. h;
  all = λ y i. at-one y i;
  only = λ y h. inl h;
  still = λ y i. i;
  more = λ y i. inl i;
  fewer = refl;
}
  where
    at-one : (y : ℕ) → IsIn y (x ∷ []) → is_marked marks y ≡ true
    at-one y (inl e) = ap (is_marked marks) e ∙ t
    at-one y (inr i) = absurd i

pub marks_new : (x : ℕ) (marks : List Bool) (waiting waiting' : List ℕ) → x < length marks → is_marked marks x ≡ false
    → waiting' ≡ waiting ++ x ∷ []
    → Marks (x ∷ []) marks waiting (slice_set marks x true) waiting'
marks_new x marks waiting waiting' h f w = record {
  same_length = set-length marks x;
  kept = λ y k. set-kept marks x y k;
  all = λ y i. at-one y i;
  only = λ y k. elim (set-only marks x y k) [
    | inl a ↦ inl a
    | inr e ↦ inr (inl e, subst (IsIn y) (sym w) (in-right y waiting (x ∷ []) (inl e)))
  ];
  still = λ y i. subst (IsIn y) (sym w) (in-left y waiting (x ∷ []) i);
  more = λ y i. elim (in-split y waiting (x ∷ []) (subst (IsIn y) w i)) [
    | inl a ↦ inl a
    | inr b ↦ inr (at-one y b)
  ];
  fewer = omega (arith, ap length w, length-append waiting (x ∷ []), set-fewer marks x h f);
}
  where
    at-one : (y : ℕ) → IsIn y (x ∷ []) → is_marked (slice_set marks x true) y ≡ true
    at-one y (inl e) = ap (is_marked (slice_set marks x true)) e ∙ set-at marks x h
    at-one y (inr i) = absurd i

pub marks_then : (ys zs : List ℕ) (m n p : List Bool) (v w u : List ℕ) → Marks ys m v n w → Marks zs n w p u
    → Marks (ys ++ zs) m v p u
marks_then ys zs m n p v w u first second = record {
  same_length = second.same_length ∙ first.same_length;
  kept = λ y h. second.kept y (first.kept y h);
  all = λ y i. elim (in-split y ys zs i) [
    | inl a ↦ second.kept y (first.all y a)
    | inr b ↦ second.all y b
  ];
  only = λ y h. elim (second.only y h) [
    | inl a ↦ elim (first.only y a) [
      | inl b ↦ inl b
      | inr b ↦ inr (in-left y ys zs b.0, second.still y b.1)
    ]
    | inr b ↦ inr (in-right y ys zs b.0, b.1)
  ];
  still = λ y i. second.still y (first.still y i);
  more = λ y i. elim (second.more y i) [
    | inl a ↦ elim (first.more y a) [
      | inl b ↦ inl b
      | inr b ↦ inr (second.kept y b)
    ]
    | inr b ↦ inr b
  ];
  fewer = second.fewer ∙ first.fewer;
}

-- ---- a search

pub none-marked : (n y : ℕ) → is_marked (replicate n false) y ≡ true → ⊥
none-marked zero y h = false≢true h
none-marked (suc n) zero h = false≢true h
none-marked (suc n) (suc y) h = none-marked n y h

pub repeat-length : (n : ℕ) → length (replicate n false) ≡ n
repeat-length zero = refl
repeat-length (suc n) = ap suc (repeat-length n)

leads-on : (graph : Graph) (x y z : ℕ) → Leads graph x y → IsIn z (successors graph y) → Leads graph x z
leads-on graph x y z (at_once i) j = by_way y i (at_once j)
leads-on graph x y z (by_way v i l) j = by_way v i (leads-on graph v y z l j)

pub leads-then : (graph : Graph) (x y z : ℕ) → Leads graph x y → Leads graph y z → Leads graph x z
leads-then graph x y z (at_once i) m = by_way y i m
leads-then graph x y z (by_way v i l) m = by_way v i (leads-then graph v y z l m)

pub searches_start : (graph : Graph) (start : ℕ)
    → Searches graph start (replicate (length graph) false) (start ∷ [])
searches_start graph start = record {
  same_length = repeat-length (length graph);
  reached = λ y h. absurd (none-marked (length graph) y h);
  still = λ x i. only-start x i;
  looked_at = λ x p. elim p [
    | inl e ↦ inl (inl e)
    | inr h ↦ absurd (none-marked (length graph) x h)
  ];
}
  where
    only-start : (x : ℕ) → IsIn x (start ∷ []) → (x ≡ start) ⊎ (is_marked (replicate (length graph) false) x ≡ true)
    only-start x (inl e) = inl e
    only-start x (inr i) = absurd i

pub searches_step : (graph : Graph) (start x : ℕ) (m n : List Bool) (all v w : List ℕ) → all ≡ v ++ x ∷ []
    → Searches graph start m all → Marks (successors graph x) m v n w → Searches graph start n w
searches_step graph start x m n all v w a old marks = record {
  same_length = marks.same_length ∙ old.same_length;
  reached = λ y h. elim (marks.only y h) [
    | inl k ↦ old.reached y k
    | inr k ↦ from (old.still x (subst (IsIn x) (sym a) (in-right x v (x ∷ []) (inl refl)))) y k.0
  ];
  still = λ y i. elim (marks.more y i) [
    | inl k ↦ kept y (old.still y (subst (IsIn y) (sym a) (in-left y v (x ∷ []) k)))
    | inr k ↦ inr k
  ];
  looked_at = λ y p. looked y p;
}
  where
    from : (x ≡ start) ⊎ (is_marked m x ≡ true) → (y : ℕ) → IsIn y (successors graph x) → Leads graph start y
    from (inl e) y i = at_once (subst (λ z. IsIn y (successors graph z)) e i)
    from (inr h) y i = leads-on graph start x y (old.reached x h) i

    kept : (y : ℕ) → (y ≡ start) ⊎ (is_marked m y ≡ true) → (y ≡ start) ⊎ (is_marked n y ≡ true)
    kept y (inl e) = inl e
    kept y (inr h) = inr (marks.kept y h)

    before : (y : ℕ) → (y ≡ start) ⊎ (is_marked m y ≡ true)
        → IsIn y w ⊎ ((z : ℕ) → IsIn z (successors graph y) → is_marked n z ≡ true)
    before y p = elim (old.looked_at y p) [
      | inl i ↦ elim (in-split y v (x ∷ []) (subst (IsIn y) a i)) [
        | inl k ↦ inl (marks.still y k)
        | inr k ↦ elim k [
          | inl e ↦ inr (λ z j. marks.all z (subst (λ q. IsIn z (successors graph q)) e j))
          | inr b ↦ absurd b
        ]
      ]
      | inr f ↦ inr (λ z j. marks.kept z (f z j))
    ]

    looked : (y : ℕ) → (y ≡ start) ⊎ (is_marked n y ≡ true)
        → IsIn y w ⊎ ((z : ℕ) → IsIn z (successors graph y) → is_marked n z ≡ true)
    looked y (inl e) = before y (inl e)
    looked y (inr h) = elim (marks.only y h) [
      | inl k ↦ before y (inr k)
      | inr k ↦ inl k.1
    ]

closed : (graph : Graph) (start : ℕ) (m : List Bool) → Searches graph start m [] → (x y : ℕ)
    → (x ≡ start) ⊎ (is_marked m x ≡ true) → Leads graph x y → is_marked m y ≡ true
closed graph start m s x y p (at_once i) = elim (s.looked_at x p) [
  | inl k ↦ absurd k
  | inr f ↦ f y i
]
closed graph start m s x y p (by_way z i l) = elim (s.looked_at x p) [
  | inl k ↦ absurd k
  | inr f ↦ closed graph start m s z y (inr (f z i)) l
]

pub searches_end : (graph : Graph) (start : ℕ) (m : List Bool) → Searches graph start m []
    → (is_marked m start ≡ true) ↔ Leads graph start start
searches_end graph start m s = (s.reached start, λ l. closed graph start m s start start (inl refl) l)

-- ---- lists of places

pub unmarked_past : (marks : List Bool) (x : ℕ) → None ≡ slice_get marks x → false ≡ is_marked marks x
unmarked_past [] x h = refl
unmarked_past (m ∷ marks) zero h = absurd (none-some m (h))
unmarked_past (m ∷ marks) (suc x) h = unmarked_past marks x h

pub in_at : (xs : List ℕ) (i d : ℕ) → i < length xs → IsIn (get_or xs i d) xs
in_at [] i d h = absurd (omega (arith, h))
in_at (x ∷ xs) zero d h = inl refl
in_at (x ∷ xs) (suc i) d h = inr (in_at xs i d (omega (arith, h)))

take-suc : (xs : List ℕ) (i d : ℕ) → i < length xs → take (suc i) xs ≡ take i xs ++ get_or xs i d ∷ []
take-suc [] i d h = absurd (omega (arith, h))
take-suc (x ∷ xs) zero d h = refl
take-suc (x ∷ xs) (suc i) d h = ap (λ l. x ∷ l) (take-suc xs i d (omega (arith, h)))

pub take_next : (xs : List ℕ) (i x : ℕ) → i < length xs → x ≡ get_or xs i x → take (i + 1) xs ≡ take i xs ++ x ∷ []
take_next xs i x h e =
    ap (λ n. take n xs) (add-one i) ∙ (take-suc xs i x h ∙ ap (λ y. take i xs ++ y ∷ []) (sym e))

pub take_at : (xs : List ℕ) (i d : ℕ) → i < length xs → take (i + 1) xs ≡ take i xs ++ get_or xs i d ∷ []
take_at xs i d h = ap (λ n. take n xs) (add-one i) ∙ take-suc xs i d h
