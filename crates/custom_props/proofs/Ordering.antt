-- Places put in order, task by task.
use Rattle.std.proofs.Common.{◌≡◌, ◌∙◌, ◌⊎◌, ap, sym, refl, subst, ℕ, zero, suc, ◌+◌, ◌<◌, ◌≤◌, List, [], ◌∷◌, ◌++◌, length, length-append, Bool, true, false, inl, inr, arith}
use Rattle.std.specs.Prelude.{replicate, slice_set}
use Rattle.std.proofs.lemmas.Bool.{cases_lt, false≢true}
use Rattle.custom_props.specs.declared.orders.Task.{Task}
use Rattle.custom_props.specs.declared.orders.Task.TheVariants.{Enter, Leave}
use Rattle.custom_props.specs.inner.Graphs.{AreOrdered, Graph, IsIn, IsOrder, IsWithin, Leads, at_once, is_marked, successors}
use Rattle.custom_props.specs.inner.Walks.{AreAllEntered, AreNested, Enters, IsEntered, IsLeft, LeadsToAll, Orders, entered, place_of_task, tasks_ahead}
use Rattle.custom_props.proofs.Marking.{in-left, in-right, leads-then, none-marked, repeat-length, set-at, set-kept, set-length, set-only}

-- ---- lists of tasks

entered-left : (x : ℕ) (ts us : List Task) → IsEntered x ts → IsEntered x (ts ++ us)
entered-left x [] us i = absurd i
entered-left x (Enter y ∷ ts) us (inl e) = inl e
entered-left x (Enter y ∷ ts) us (inr i) = inr (entered-left x ts us i)
entered-left x (Leave y ∷ ts) us i = entered-left x ts us i

entered-right : (x : ℕ) (ts us : List Task) → IsEntered x us → IsEntered x (ts ++ us)
entered-right x [] us i = i
entered-right x (Enter y ∷ ts) us i = inr (entered-right x ts us i)
entered-right x (Leave y ∷ ts) us i = entered-right x ts us i

entered-split : (x : ℕ) (ts us : List Task) → IsEntered x (ts ++ us) → IsEntered x ts ⊎ IsEntered x us
entered-split x [] us i = inr i
entered-split x (Enter y ∷ ts) us (inl e) = inl (inl e)
entered-split x (Enter y ∷ ts) us (inr i) = elim (entered-split x ts us i) [
  | inl a ↦ inl (inr a)
  | inr b ↦ inr b
]
entered-split x (Leave y ∷ ts) us i = entered-split x ts us i

left-left : (x : ℕ) (ts us : List Task) → IsLeft x ts → IsLeft x (ts ++ us)
left-left x [] us i = absurd i
left-left x (Leave y ∷ ts) us (inl e) = inl e
left-left x (Leave y ∷ ts) us (inr i) = inr (left-left x ts us i)
left-left x (Enter y ∷ ts) us i = left-left x ts us i

left-right : (x : ℕ) (ts us : List Task) → IsLeft x us → IsLeft x (ts ++ us)
left-right x [] us i = i
left-right x (Leave y ∷ ts) us i = inr (left-right x ts us i)
left-right x (Enter y ∷ ts) us i = left-right x ts us i

left-split : (x : ℕ) (ts us : List Task) → IsLeft x (ts ++ us) → IsLeft x ts ⊎ IsLeft x us
left-split x [] us i = inr i
left-split x (Leave y ∷ ts) us (inl e) = inl (inl e)
left-split x (Leave y ∷ ts) us (inr i) = elim (left-split x ts us i) [
  | inl a ↦ inl (inr a)
  | inr b ↦ inr b
]
left-split x (Enter y ∷ ts) us i = left-split x ts us i

all-left : (g : Graph) (x : ℕ) (ts us : List Task) → LeadsToAll g x (ts ++ us) → LeadsToAll g x ts
all-left g x [] us a = tt
all-left g x (t ∷ ts) us a = (a.0, all-left g x ts us a.1)

all-right : (g : Graph) (x : ℕ) (ts us : List Task) → LeadsToAll g x (ts ++ us) → LeadsToAll g x us
all-right g x [] us a = a
all-right g x (t ∷ ts) us a = all-right g x ts us a.1

all-both : (g : Graph) (x : ℕ) (ts us : List Task) → LeadsToAll g x ts → LeadsToAll g x us
    → LeadsToAll g x (ts ++ us)
all-both g x [] us a b = b
all-both g x (t ∷ ts) us a b = (a.0, all-both g x ts us a.1 b)

-- ---- places that are entered

entered-all : (x : ℕ) (places : List ℕ) → IsIn x places → IsEntered x (entered places)
entered-all x [] i = absurd i
entered-all x (y ∷ places) (inl e) = inl e
entered-all x (y ∷ places) (inr i) = inr (entered-all x places i)

none-left : (x : ℕ) (places : List ℕ) → IsLeft x (entered places) → ⊥
none-left x [] i = i
none-left x (y ∷ places) i = none-left x places i

leads-entered : (g : Graph) (x : ℕ) (places : List ℕ) → ((y : ℕ) → IsIn y places → Leads g x y)
    → LeadsToAll g x (entered places)
leads-entered g x [] l = tt
leads-entered g x (y ∷ places) l = (l y (inl refl), leads-entered g x places (λ z i. l z (inr i)))

nested-entered : (g : Graph) (m : List Bool) (places : List ℕ) → AreNested g m (entered places)
nested-entered g m [] = tt
nested-entered g m (y ∷ places) = nested-entered g m places

-- ---- a place is left

nested-front : (g : Graph) (m : List Bool) (x : ℕ) (ts : List Task) → AreNested g m (ts ++ Leave x ∷ [])
    → AreNested g m ts
nested-front g m x [] n = tt
nested-front g m x (Enter y ∷ ts) n = nested-front g m x ts n
nested-front g m x (Leave y ∷ ts) n = (
  all-left g y ts (Leave x ∷ []) n.0,
  (λ z i. elim (n.1 z i) [
    | inl h ↦ inl h
    | inr e ↦ elim (entered-split z ts (Leave x ∷ []) e) [
      | inl a ↦ inr a
      | inr b ↦ absurd b
    ]
  ]),
  nested-front g m x ts n.2,
)

nested-last : (g : Graph) (m : List Bool) (x : ℕ) (ts : List Task) → AreNested g m (ts ++ Leave x ∷ [])
    → (y : ℕ) → IsIn y (successors g x) → is_marked m y ≡ true
nested-last g m x [] n y i = elim (n.1 y i) [
  | inl h ↦ h
  | inr e ↦ absurd e
]
nested-last g m x (Enter z ∷ ts) n y i = nested-last g m x ts n y i
nested-last g m x (Leave z ∷ ts) n y i = nested-last g m x ts n.2 y i

left-leads : (g : Graph) (m : List Bool) (t : Task) (ts : List Task) → AreNested g m (ts ++ t ∷ []) → (y : ℕ)
    → IsLeft y ts → Leads g y (place_of_task t)
left-leads g m t [] n y i = absurd i
left-leads g m t (Enter z ∷ ts) n y i = left-leads g m t ts n y i
left-leads g m t (Leave z ∷ ts) n y (inl e) =
    subst (λ v. Leads g v (place_of_task t)) (sym e) (all-right g z ts (t ∷ []) n.0).0
left-leads g m t (Leave z ∷ ts) n y (inr i) = left-leads g m t ts n.2 y i

order-more : (g : Graph) (x : ℕ) (front order : List ℕ) → AreOrdered g front order
    → ((y : ℕ) → IsIn y (successors g x) → (IsIn y order ⊎ IsIn y front) ⊎ Leads g y x)
    → AreOrdered g front (order ++ x ∷ [])
order-more g x front [] o h = (
  (λ y i. elim (h y i) [
    | inl a ↦ elim a [
      | inl b ↦ absurd b
      | inr b ↦ inl b
    ]
    | inr l ↦ inr l
  ]),
  tt,
)
order-more g x front (z ∷ order) o h = (
  o.0,
  order-more g x (z ∷ front) order o.1 (λ y i. elim (h y i) [
    | inl a ↦ elim a [
      | inl b ↦ elim b [
        | inl e ↦ inl (inr (inl e))
        | inr c ↦ inl (inl c)
      ]
      | inr b ↦ inl (inr (inr b))
    ]
    | inr l ↦ inr l
  ]),
)

pub orders_leave : (g : Graph) (m : List Bool) (x : ℕ) (all ts : List Task) (order order' : List ℕ)
    → all ≡ ts ++ Leave x ∷ [] → order' ≡ order ++ x ∷ [] → Orders g m all order → Orders g m ts order'
orders_leave g m x all ts order order' a e old = record {
  same_length = old.same_length;
  nested = nested-front g m x ts nested;
  done = λ y h. elim (old.done y h) [
    | inl i ↦ inl (subst (IsIn y) (sym e) (in-left y order (x ∷ []) i))
    | inr i ↦ elim (left-split y ts (Leave x ∷ []) (subst (IsLeft y) a i)) [
      | inl b ↦ inr b
      | inr b ↦ elim b [
        | inl s ↦ inl (subst (IsIn y) (sym e) (in-right y order (x ∷ []) (inl s)))
        | inr n ↦ absurd n
      ]
    ]
  ];
  ordered = subst (AreOrdered g []) (sym e) (order-more g x [] order old.ordered before);
  all = λ y l. elim (old.all y l) [
    | inl h ↦ inl h
    | inr i ↦ elim (entered-split y ts (Leave x ∷ []) (subst (IsEntered y) a i)) [
      | inl b ↦ inr b
      | inr b ↦ absurd b
    ]
  ];
}
  where
    nested : AreNested g m (ts ++ Leave x ∷ [])
    nested = subst (AreNested g m) a old.nested

    before : (y : ℕ) → IsIn y (successors g x) → (IsIn y order ⊎ IsIn y []) ⊎ Leads g y x
    before y i = elim (old.done y (nested-last g m x ts nested y i)) [
      | inl j ↦ inl (inl j)
      | inr j ↦ elim (left-split y ts (Leave x ∷ []) (subst (IsLeft y) a j)) [
        | inl b ↦ inr (left-leads g m (Leave x) ts nested y b)
        | inr b ↦ elim b [
          | inl s ↦ inr (at_once (subst (λ v. IsIn x (successors g v)) (sym s) (subst (λ v. IsIn v (successors g x)) s i)))
          | inr n ↦ absurd n
        ]
      ]
    ]

-- ---- a place is entered

nested-skip : (g : Graph) (m : List Bool) (x : ℕ) → IsWithin g → (x < length g → is_marked m x ≡ true) → (ts : List Task)
    → AreNested g m (ts ++ Enter x ∷ []) → AreNested g m ts
nested-skip g m x w k [] n = tt
nested-skip g m x w k (Enter y ∷ ts) n = nested-skip g m x w k ts n
nested-skip g m x w k (Leave y ∷ ts) n = (
  all-left g y ts (Enter x ∷ []) n.0,
  (λ z i. elim (n.1 z i) [
    | inl h ↦ inl h
    | inr e ↦ elim (entered-split z ts (Enter x ∷ []) e) [
      | inl a ↦ inr a
      | inr b ↦ elim b [
        | inl s ↦ inl (ap (is_marked m) s ∙ k (subst (λ v. v < length g) s (w y z i)))
        | inr c ↦ absurd c
      ]
    ]
  ]),
  nested-skip g m x w k ts n.2,
)

nested-enter : (g : Graph) (m : List Bool) (x : ℕ) → x < length m → (ts : List Task)
    → AreNested g m (ts ++ Enter x ∷ [])
    → AreNested g (slice_set m x true) (ts ++ Leave x ∷ entered (successors g x))
nested-enter g m x l [] n = (
  leads-entered g x (successors g x) (λ y i. at_once i),
  (λ y i. inr (entered-all y (successors g x) i)),
  nested-entered g (slice_set m x true) (successors g x),
)
nested-enter g m x l (Enter y ∷ ts) n = nested-enter g m x l ts n
nested-enter g m x l (Leave y ∷ ts) n =
    let leads : Leads g y x = (all-right g y ts (Enter x ∷ []) n.0).0 in (
      all-both g y ts (Leave x ∷ entered (successors g x)) (all-left g y ts (Enter x ∷ []) n.0)
          (leads, leads-entered g y (successors g x) (λ z i. leads-then g y x z leads (at_once i))),
      (λ z i. elim (n.1 z i) [
        | inl h ↦ inl (set-kept m x z h)
        | inr e ↦ elim (entered-split z ts (Enter x ∷ []) e) [
          | inl a ↦ inr (entered-left z ts (Leave x ∷ entered (successors g x)) a)
          | inr b ↦ elim b [
            | inl s ↦ inl (ap (is_marked (slice_set m x true)) s ∙ set-at m x l)
            | inr c ↦ absurd c
          ]
        ]
      ]),
      nested-enter g m x l ts n.2,
    )

pub orders_skip : (g : Graph) (m : List Bool) (x : ℕ) (all ts : List Task) (order : List ℕ) → IsWithin g
    → all ≡ ts ++ Enter x ∷ [] → (x < length g → is_marked m x ≡ true) → Orders g m all order → Orders g m ts order
orders_skip g m x all ts order w a k old = record {
  same_length = old.same_length;
  nested = nested-skip g m x w k ts (subst (AreNested g m) a old.nested);
  done = λ y h. elim (old.done y h) [
    | inl i ↦ inl i
    | inr i ↦ elim (left-split y ts (Enter x ∷ []) (subst (IsLeft y) a i)) [
      | inl b ↦ inr b
      | inr b ↦ absurd b
    ]
  ];
  ordered = old.ordered;
  all = λ y l. elim (old.all y l) [
    | inl h ↦ inl h
    | inr i ↦ elim (entered-split y ts (Enter x ∷ []) (subst (IsEntered y) a i)) [
      | inl b ↦ inr b
      | inr b ↦ elim b [
        | inl s ↦ inl (ap (is_marked m) s ∙ k (subst (λ v. v < length g) s l))
        | inr c ↦ absurd c
      ]
    ]
  ];
}

pub orders_enter : (g : Graph) (m : List Bool) (x : ℕ) (all ts : List Task) (order : List ℕ) → x < length g
    → all ≡ ts ++ Enter x ∷ [] → Orders g m all order
    → Orders g (slice_set m x true) (ts ++ Leave x ∷ entered (successors g x)) order
orders_enter g m x all ts order l a old = record {
  same_length = set-length m x ∙ old.same_length;
  nested = nested-enter g m x within ts (subst (AreNested g m) a old.nested);
  done = λ y h. elim (set-only m x y h) [
    | inl k ↦ elim (old.done y k) [
      | inl i ↦ inl i
      | inr i ↦ elim (left-split y ts (Enter x ∷ []) (subst (IsLeft y) a i)) [
        | inl b ↦ inr (left-left y ts (Leave x ∷ entered (successors g x)) b)
        | inr b ↦ absurd b
      ]
    ]
    | inr s ↦ inr (left-right y ts (Leave x ∷ entered (successors g x)) (inl s))
  ];
  ordered = old.ordered;
  all = λ y k. elim (old.all y k) [
    | inl h ↦ inl (set-kept m x y h)
    | inr i ↦ elim (entered-split y ts (Enter x ∷ []) (subst (IsEntered y) a i)) [
      | inl b ↦ inr (entered-left y ts (Leave x ∷ entered (successors g x)) b)
      | inr b ↦ elim b [
        | inl s ↦ inl (ap (is_marked (slice_set m x true)) s ∙ set-at m x within)
        | inr c ↦ absurd c
      ]
    ]
  ];
}
  where
    within : x < length m
    within = subst (λ n. x < n) (sym old.same_length) l

-- ---- the first task, and the last

pub orders_start : (g : Graph) (places : List ℕ) → ((x : ℕ) → x < length g → IsIn x places)
    → Orders g (replicate (length g) false) (entered places) []
orders_start g places a = record {
  same_length = repeat-length (length g);
  nested = nested-entered g (replicate (length g) false) places;
  done = λ x h. absurd (none-marked (length g) x h);
  ordered = tt;
  all = λ x l. inr (entered-all x places (a x l));
}

pub orders_end : (g : Graph) (m : List Bool) (order : List ℕ) → Orders g m [] order → IsOrder g order
orders_end g m order o = record {
  ordered = o.ordered;
  all = λ x l. elim (o.all x l) [
    | inl h ↦ elim (o.done x h) [
      | inl i ↦ i
      | inr i ↦ absurd i
    ]
    | inr e ↦ absurd e
  ];
}

-- ---- how many tasks there may be

pub ahead-less : (g : Graph) (m : List Bool) (x : ℕ) → length m ≡ length g → x < length g → is_marked m x ≡ false
    → tasks_ahead g (slice_set m x true) + suc (length (successors g x)) ≡ tasks_ahead g m
ahead-less [] m x s l f = absurd (omega (arith, l))
ahead-less (places ∷ g) [] x s l f = absurd (omega (arith, s))
ahead-less (places ∷ g) (true ∷ m) zero s l f = absurd (false≢true (sym f))
ahead-less (places ∷ g) (false ∷ m) zero s l f = omega arith
ahead-less (places ∷ g) (true ∷ m) (suc x) s l f = ahead-less g m x (omega (arith, s)) (omega (arith, l)) f
ahead-less (places ∷ g) (false ∷ m) (suc x) s l f =
    omega (arith, ahead-less g m x (omega (arith, s)) (omega (arith, l)) f)

-- ---- all places are to be entered

entered-append : (xs ys : List ℕ) → entered (xs ++ ys) ≡ entered xs ++ entered ys
entered-append [] ys = refl
entered-append (x ∷ xs) ys = ap (λ ts. Enter x ∷ ts) (entered-append xs ys)

pub all_entered_none : AreAllEntered 0 []
all_entered_none = ([], refl, λ x h. absurd (omega (arith, h)))

pub all_entered_more : (n : ℕ) (tasks tasks' : List Task) → tasks' ≡ tasks ++ Enter n ∷ []
    → AreAllEntered n tasks → AreAllEntered (n + 1) tasks'
all_entered_more n tasks tasks' e a = (
  a.0 ++ n ∷ [],
  e ∙ (ap (λ ts. ts ++ Enter n ∷ []) a.1 ∙ sym (entered-append a.0 (n ∷ []))),
  (λ x h. elim (cases_lt x n) [
    | inl l ↦ in-left x a.0 (n ∷ []) (a.2 x l)
    | inr k ↦ in-right x a.0 (n ∷ []) (inl (omega (arith, h, k)))
  ]),
)

pub all_entered_least : (n m : ℕ) (tasks : List Task) → m ≤ n → AreAllEntered n tasks → AreAllEntered m tasks
all_entered_least n m tasks l a = (a.0, a.1, λ x h. a.2 x (omega (arith, l, h)))

pub orders_init : (g : Graph) (m : List Bool) (tasks : List Task) → m ≡ replicate (length g) false
    → AreAllEntered (length g) tasks → Orders g m tasks []
orders_init g m tasks e a =
    subst (λ (n : List Bool). Orders g n tasks []) (sym e)
    (subst (λ (ts : List Task). Orders g (replicate (length g) false) ts []) (sym a.1) (orders_start g a.0 a.2))

pub orders_entered : (g : Graph) (m n : List Bool) (x : ℕ) (all ts us : List Task) (order : List ℕ) → IsWithin g
    → all ≡ ts ++ Enter x ∷ [] → Enters g x m ts n us → Orders g m all order → Orders g n us order
orders_entered g m n x all ts us order w a (inl e) old =
    subst (λ (k : List Bool). Orders g k us order) (sym e.1)
    (subst (λ (vs : List Task). Orders g m vs order) (sym e.2) (orders_skip g m x all ts order w a e.0 old))
orders_entered g m n x all ts us order w a (inr e) old =
    subst (λ (k : List Bool). Orders g k us order) (sym e.2)
    (subst (λ (vs : List Task). Orders g (slice_set m x true) vs order) (sym e.3) (orders_enter g m x all ts order e.0 a old))

pub fewer_tasks : (g : Graph) (m n : List Bool) (x : ℕ) (ts us : List Task) → length m ≡ length g
    → Enters g x m ts n us → length us + tasks_ahead g n ≤ length ts + tasks_ahead g m
fewer_tasks g m n x ts us s (inl e) = omega (arith, ap length e.2, ap (tasks_ahead g) e.1)
fewer_tasks g m n x ts us s (inr e) =
    let less = ahead-less g m x s e.0 e.1 in
    let more : length (entered (successors g x)) ≡ length (successors g x) = entered-length (successors g x) in
    let all = length-append ts (Leave x ∷ entered (successors g x)) in
    omega (arith, less, more, all, ap length e.3, ap (tasks_ahead g) e.2)
  where
    entered-length : (xs : List ℕ) → length (entered xs) ≡ length xs
    entered-length [] = refl
    entered-length (x ∷ xs) = ap suc (entered-length xs)
