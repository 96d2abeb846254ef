-- Lists in order of name: what they are found to have, and that this is all there is to them.
use Rattle.std.proofs.Common.{◌≡◌, ◌∙◌, ap, sym, refl, List, [], ◌∷◌, ◌||◌, Bool, true, false, inl, inr, Some, None, eq-eqb}
use Rattle.std.specs.List.{list_any}
use Rattle.std.proofs.lemmas.Bool.{cases_Bool, false≢true}
use Rattle.std.proofs.lemmas.Option.{none-some, same_Some}
use Rattle.css_model.specs.Classes.{Text}
use Rattle.css_model.specs.Components.{Components}
use Rattle.page_model.specs.Attributes.{is_less_text, is_same_text}
use Rattle.page_laws.proofs.AttributesInOrder.{same-text, text-same, less-or-more, less-then-less}
use Rattle.page_laws.proofs.Options.{both-true, none-or-some, or-false}
use Rattle.custom_model.specs.NamedValues.{NamedValues, value_named, names_of, are_in_order}
use Rattle.custom_model.specs.Substitution.{Entries}
use Rattle.custom_model.specs.inner.Finding.{with_name, ordered_names, entries_of}

-- ---- order

-- a name that is less than the first of a list, where there is one
abbrev pub leads : Text → List Text → Bool
leads name [] = true
leads name (n ∷ names) = is_less_text name n

pub order-cons : (n : Text) (names : List Text) → leads n names ≡ true → are_in_order names ≡ true
    → are_in_order (n ∷ names) ≡ true
order-cons n [] h k = refl
order-cons n (m ∷ names) h k = rw h k

pub order-tail : (n : Text) (names : List Text) → are_in_order (n ∷ names) ≡ true → are_in_order names ≡ true
order-tail n [] h = refl
order-tail n (m ∷ names) h = (both-true (is_less_text n m) (are_in_order (m ∷ names)) h).1

pub order-leads : (n : Text) (names : List Text) → are_in_order (n ∷ names) ≡ true → leads n names ≡ true
order-leads n [] h = refl
order-leads n (m ∷ names) h = (both-true (is_less_text n m) (are_in_order (m ∷ names)) h).0

pub leads-through : (n m : Text) (names : List Text) → is_less_text n m ≡ true → leads m names ≡ true → leads n names ≡ true
leads-through n m [] h k = refl
leads-through n m (p ∷ names) h k = less-then-less n m p h k

pub not-less : (cs : Text) → is_less_text cs cs ≡ false
not-less [] = refl
not-less (c ∷ cs) = rw (eq-eqb c c refl) (not-less cs)

-- ---- names in order

leads-with : (n m : Text) (names : List Text) → is_less_text n m ≡ true → leads n names ≡ true → leads n (with_name m names) ≡ true
leads-with n m [] h k = h
leads-with n m (p ∷ names) h k = elim (cases_Bool (is_same_text m p)) [
  | inl t ↦ rw t k
  | inr f ↦ elim (cases_Bool (is_less_text m p)) [
    | inl t ↦ rw (f, t) h
    | inr g ↦ rw (f, g) k
  ]
]

order-with : (name : Text) (names : List Text) → are_in_order names ≡ true → are_in_order (with_name name names) ≡ true
order-with name [] h = refl
order-with name (n ∷ names) h = elim (cases_Bool (is_same_text name n)) [
  | inl t ↦ rw t h
  | inr f ↦ elim (cases_Bool (is_less_text name n)) [
    | inl t ↦ rw (f, t) (order-cons name (n ∷ names) t h)
    | inr g ↦
        rw (f, g) (order-cons n (with_name name names)
        (leads-with n name names (less-or-more name n f g) (order-leads n names h))
        (order-with name names (order-tail n names h)))
  ]
]

pub names-in-order : (names : List Text) → are_in_order (ordered_names names) ≡ true
names-in-order [] = refl
names-in-order (n ∷ names) = order-with n (ordered_names names) (names-in-order names)

or-again : (a b : Bool) → (a || b) ≡ (a || (a || b))
or-again true b = refl
or-again false b = refl

or-between : (a b c : Bool) → (a || (b || c)) ≡ (b || (a || c))
or-between true true c = refl
or-between true false c = refl
or-between false b c = refl

any-with : (name n : Text) (names : List Text)
    → list_any (is_same_text name) (with_name n names) ≡ (is_same_text name n || list_any (is_same_text name) names)
any-with name n [] = refl
any-with name n (m ∷ names) = elim (cases_Bool (is_same_text n m)) [
  | inl t ↦
      rw t (or-again (is_same_text name m) (list_any (is_same_text name) names)
      ∙ ap (λ x. is_same_text name x || (is_same_text name m || list_any (is_same_text name) names)) (sym (same-text n m t)))
  | inr f ↦ elim (cases_Bool (is_less_text n m)) [
    | inl t ↦ rw (f, t) refl
    | inr g ↦
        rw (f, g) (ap (λ x. is_same_text name m || x) (any-with name n names)
        ∙ or-between (is_same_text name m) (is_same_text name n) (list_any (is_same_text name) names))
  ]
]

pub any-in-order : (name : Text) (names : List Text)
    → list_any (is_same_text name) (ordered_names names) ≡ list_any (is_same_text name) names
any-in-order name [] = refl
any-in-order name (n ∷ names) =
    any-with name n (ordered_names names) ∙ ap (λ x. is_same_text name n || x) (any-in-order name names)

-- ---- entries of names in order

leads-entries : (n : Text) (e : Entries) (names : List Text) → are_in_order names ≡ true → leads n names ≡ true
    → leads n (names_of (entries_of e names)) ≡ true
leads-entries n e [] o h = refl
leads-entries n e (m ∷ names) o h = elim (none-or-some (e m)) [
  | inl k ↦ rw k (leads-entries n e names (order-tail m names o) (leads-through n m names h (order-leads m names o)))
  | inr s ↦ rw s.1 h
]

pub entries-in-order : (e : Entries) (names : List Text) → are_in_order names ≡ true
    → are_in_order (names_of (entries_of e names)) ≡ true
entries-in-order e [] o = refl
entries-in-order e (m ∷ names) o = elim (none-or-some (e m)) [
  | inl k ↦ rw k (entries-in-order e names (order-tail m names o))
  | inr s ↦
      rw s.1 (order-cons m (names_of (entries_of e names))
      (leads-entries m e names (order-tail m names o) (order-leads m names o))
      (entries-in-order e names (order-tail m names o)))
]

-- a name that has no entry is not found
entry-none : (e : Entries) (names : List Text) (name : Text) → e name ≡ None → value_named (entries_of e names) name ≡ None
entry-none e [] name h = refl
entry-none e (m ∷ names) name h = elim (none-or-some (e m)) [
  | inl k ↦ rw k (entry-none e names name h)
  | inr s ↦ elim (cases_Bool (is_same_text name m)) [
    | inl t ↦ absurd (none-some s.0 (sym h ∙ (ap e (same-text name m t) ∙ s.1)))
    | inr f ↦ rw (s.1, f) (entry-none e names name h)
  ]
]

-- and one that is among the names has its entry
pub entry-found : (e : Entries) (names : List Text) (name : Text) → list_any (is_same_text name) names ≡ true
    → value_named (entries_of e names) name ≡ e name
entry-found e [] name h = absurd (false≢true h)
entry-found e (m ∷ names) name h = elim (cases_Bool (is_same_text name m)) [
  | inl t ↦
      let same : name ≡ m = same-text name m t in
      elim (none-or-some (e m)) [
        | inl k ↦
            let none : e name ≡ None = ap e same ∙ k in
            entry-none e (m ∷ names) name none ∙ sym none
        | inr s ↦ rw (s.1, t) (sym (ap e same ∙ s.1))
      ]
  | inr f ↦ elim (none-or-some (e m)) [
    | inl k ↦ rw k (entry-found e names name (rw f at h))
    | inr s ↦ rw (s.1, f) (entry-found e names name (rw f at h))
  ]
]

-- one that is not among them has none
pub entry-missing : (e : Entries) (names : List Text) (name : Text) → list_any (is_same_text name) names ≡ false
    → value_named (entries_of e names) name ≡ None
entry-missing e [] name h = refl
entry-missing e (m ∷ names) name h =
    let parts = or-false (is_same_text name m) (list_any (is_same_text name) names) h in
    elim (none-or-some (e m)) [
      | inl k ↦ rw k (entry-missing e names name parts.1)
      | inr s ↦ rw (s.1, parts.0) (entry-missing e names name parts.1)
    ]

-- ---- one list

-- a name before all of a list is not in it
pub absent : (values : NamedValues) (name : Text) → are_in_order (names_of values) ≡ true → leads name (names_of values) ≡ true
    → value_named values name ≡ None
absent [] name o h = refl
absent (v ∷ values) name o h = elim (cases_Bool (is_same_text name v.0)) [
  | inl t ↦ absurd (false≢true (sym (not-less name) ∙ (ap (is_less_text name) (same-text name v.0 t) ∙ h)))
  | inr f ↦
      rw f (absent values name (order-tail v.0 (names_of values) o)
      (leads-through name v.0 (names_of values) h (order-leads v.0 (names_of values) o)))
]

-- the first value of a list is that of its name
pub first-value : (v : Text × Components) (values : NamedValues) → value_named (v ∷ values) v.0 ≡ Some v.1
first-value v values = rw (text-same v.0) refl

-- what is after the first of two lists, where the first have the same name
same-tails : (v w : Text × Components) (values others : NamedValues)
    → are_in_order (names_of (v ∷ values)) ≡ true → are_in_order (names_of (w ∷ others)) ≡ true
    → ((name : Text) → value_named (v ∷ values) name ≡ value_named (w ∷ others) name)
    → v.0 ≡ w.0 → (name : Text) → value_named values name ≡ value_named others name
same-tails v w values others o p h e name = elim (cases_Bool (is_same_text name v.0)) [
  | inl t ↦
      let first : v.0 ≡ name = sym (same-text name v.0 t) in
      let one = absent values v.0 (order-tail v.0 (names_of values) o) (order-leads v.0 (names_of values) o) in
      let two = absent others w.0 (order-tail w.0 (names_of others) p) (order-leads w.0 (names_of others) p) in
      ap (value_named values) (sym first) ∙ (one ∙ (sym two ∙ (ap (value_named others) (sym e) ∙ ap (value_named others) first)))
  | inr f ↦
      let g : is_same_text name w.0 ≡ false = ap (is_same_text name) (sym e) ∙ f in
      let same = h name in
      rw (f, g) at same
]

pub same-list : (values others : NamedValues) → are_in_order (names_of values) ≡ true → are_in_order (names_of others) ≡ true
    → ((name : Text) → value_named values name ≡ value_named others name) → values ≡ others
same-list [] [] o p h = refl
same-list [] (w ∷ others) o p h = absurd (none-some w.1 (h w.0 ∙ first-value w others))
same-list (v ∷ values) [] o p h = absurd (none-some v.1 (sym (h v.0) ∙ first-value v values))
same-list (v ∷ values) (w ∷ others) o p h = elim (cases_Bool (is_same_text v.0 w.0)) [
  | inl t ↦
      let name : v.0 ≡ w.0 = same-text v.0 w.0 t in
      let value : v.1 ≡ w.1 =
      same_Some v.1 w.1 (sym (first-value v values) ∙ (h v.0 ∙ (ap (value_named (w ∷ others)) name ∙ first-value w others))) in
      let tails : values ≡ others =
      same-list values others (order-tail v.0 (names_of values) o) (order-tail w.0 (names_of others) p)
      (same-tails v w values others o p h name) in
      λ j. (name j, value j) ∷ tails j
  | inr f ↦ elim (cases_Bool (is_less_text v.0 w.0)) [
    | inl t ↦ absurd (none-some v.1 (sym (absent (w ∷ others) v.0 p t) ∙ (sym (h v.0) ∙ first-value v values)))
    | inr g ↦
        let less : is_less_text w.0 v.0 ≡ true = less-or-more v.0 w.0 f g in
        absurd (none-some w.1 (sym (absent (v ∷ values) w.0 o less) ∙ (h w.0 ∙ first-value w others)))
  ]
]
