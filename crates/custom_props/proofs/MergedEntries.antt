-- Entries of names and inherited values in order of name: they are in order, and which value each name has.
use Rattle.std.proofs.Common.{◌≡◌, ◌∙◌, ap, sym, refl, subst, ℕ, zero, suc, ◌<◌, length, drop, get_or, Equal, map, List, [], ◌∷◌, ◌++◌, true, false, if◌then◌else◌, inl, inr, Option, Some, None, option_map, arith}
use Rattle.std.proofs.lemmas.Bool.{cases_Bool, false≢true}
use Rattle.css_model.specs.Classes.{Text}
use Rattle.css_model.specs.Components.{Components}
use Rattle.page_model.specs.Attributes.{is_less_text, is_same_text}
use Rattle.page_laws.proofs.AttributesInOrder.{same-text, less-or-more, less-then-less}
use Rattle.custom_model.specs.NamedValues.{NamedValues, are_in_order, names_of, value_named}
use Rattle.custom_model.specs.inner.Finding.{with_entry}
use Rattle.custom_laws.proofs.Ordered.{absent, leads, leads-through, not-less, order-cons, order-leads, order-tail}
use Rattle.custom_props.specs.inner.Entries.{entry_at}
use Rattle.custom_props.specs.inner.Merging.{NamedEntries, after, before, merged, named_entries}
use Rattle.custom_props.specs.inner.Places.{order_of, place_of}
use Rattle.custom_props.specs.Views.{values_view}
use Rattle.custom_props.specs.declared.entry.Entry.{Entry}
use Rattle.custom_props.specs.declared.named_value.NamedValue.{NamedValue}
use Rattle.custom_props.proofs.PlacesInOrder.{less-other, more-other, order-equal-less}

abbrev pub entry_names : NamedEntries → List Text
entry_names entries = map (λ e. e.0) entries

-- ---- order

leads-with : (n m : Text) (entry : Option Components) (values : NamedValues) → is_less_text n m ≡ true
    → leads m (names_of values) ≡ true → leads n (names_of (with_entry m entry values)) ≡ true
leads-with n m None values l h = leads-through n m (names_of values) l h
leads-with n m (Some v) values l h = l

order-with : (m : Text) (entry : Option Components) (values : NamedValues) → leads m (names_of values) ≡ true
    → are_in_order (names_of values) ≡ true → are_in_order (names_of (with_entry m entry values)) ≡ true
order-with m None values h o = o
order-with m (Some v) values h o = order-cons m (names_of values) h o

after-leads : (name : Text) (values : NamedValues) → are_in_order (names_of values) ≡ true
    → leads name (names_of (after name values)) ≡ true
after-leads name [] o = refl
after-leads name (v ∷ values) o = elim (cases_Bool (is_same_text v.0 name)) [
  | inl t ↦
      rw t (subst (λ (n : Text). leads n (names_of values) ≡ true) (same-text v.0 name t)
      (order-leads v.0 (names_of values) o))
  | inr f ↦ elim (cases_Bool (is_less_text v.0 name)) [
    | inl t ↦ rw (f, t) (after-leads name values (order-tail v.0 (names_of values) o))
    | inr g ↦ rw (f, g) (less-or-more v.0 name f g)
  ]
]

after-order : (name : Text) (values : NamedValues) → are_in_order (names_of values) ≡ true
    → are_in_order (names_of (after name values)) ≡ true
after-order name [] o = refl
after-order name (v ∷ values) o = elim (cases_Bool (is_same_text v.0 name)) [
  | inl t ↦ rw t (order-tail v.0 (names_of values) o)
  | inr f ↦ elim (cases_Bool (is_less_text v.0 name)) [
    | inl t ↦ rw (f, t) (after-order name values (order-tail v.0 (names_of values) o))
    | inr g ↦ rw (f, g) o
  ]
]

before-leads : (n name : Text) (values rest : NamedValues) → leads n (names_of values) ≡ true
    → is_less_text n name ≡ true → leads n (names_of rest) ≡ true
    → leads n (names_of (before name values ++ rest)) ≡ true
before-leads n name [] rest h l k = k
before-leads n name (v ∷ values) rest h l k = elim (cases_Bool (is_less_text v.0 name)) [
  | inl t ↦ rw t h
  | inr f ↦ rw f k
]

before-order : (name : Text) (values rest : NamedValues) → are_in_order (names_of values) ≡ true
    → are_in_order (names_of rest) ≡ true
    → ((m : Text) → is_less_text m name ≡ true → leads m (names_of rest) ≡ true)
    → are_in_order (names_of (before name values ++ rest)) ≡ true
before-order name [] rest o k h = k
before-order name (v ∷ values) rest o k h = elim (cases_Bool (is_less_text v.0 name)) [
  | inl t ↦
      rw t (order-cons v.0 (names_of (before name values ++ rest))
      (before-leads v.0 name values rest (order-leads v.0 (names_of values) o) t (h v.0 t))
      (before-order name values rest (order-tail v.0 (names_of values) o) k h))
  | inr f ↦ rw f k
]

pub merged-leads : (n : Text) (entries : NamedEntries) (inherited : NamedValues) → are_in_order (entry_names entries) ≡ true
    → are_in_order (names_of inherited) ≡ true → leads n (entry_names entries) ≡ true
    → leads n (names_of inherited) ≡ true → leads n (names_of (merged entries inherited)) ≡ true
merged-leads n [] inherited o i h k = k
merged-leads n (e ∷ entries) inherited o i h k =
    before-leads n e.0 inherited (with_entry e.0 e.1 (merged entries (after e.0 inherited))) k h
    (leads-with n e.0 e.1 (merged entries (after e.0 inherited)) h
    (merged-leads e.0 entries (after e.0 inherited) (order-tail e.0 (entry_names entries) o) (after-order e.0 inherited i)
    (order-leads e.0 (entry_names entries) o) (after-leads e.0 inherited i)))

-- the entries that follow those of the first name
follow-leads : (e : Text × Option Components) (entries : NamedEntries) (inherited : NamedValues)
    → are_in_order (entry_names (e ∷ entries)) ≡ true → are_in_order (names_of inherited) ≡ true
    → leads e.0 (names_of (merged entries (after e.0 inherited))) ≡ true
follow-leads e entries inherited o i =
    merged-leads e.0 entries (after e.0 inherited) (order-tail e.0 (entry_names entries) o) (after-order e.0 inherited i)
    (order-leads e.0 (entry_names entries) o) (after-leads e.0 inherited i)

pub merged-order : (entries : NamedEntries) (inherited : NamedValues) → are_in_order (entry_names entries) ≡ true
    → are_in_order (names_of inherited) ≡ true → are_in_order (names_of (merged entries inherited)) ≡ true
merged-order [] inherited o i = i
merged-order (e ∷ entries) inherited o i =
    let follows = follow-leads e entries inherited o i in
    before-order e.0 inherited (with_entry e.0 e.1 (merged entries (after e.0 inherited))) i
    (order-with e.0 e.1 (merged entries (after e.0 inherited)) follows
    (merged-order entries (after e.0 inherited) (order-tail e.0 (entry_names entries) o) (after-order e.0 inherited i)))
    (λ m l. leads-with m e.0 e.1 (merged entries (after e.0 inherited)) l follows)

-- ---- the value of a name

-- a name that is not less than this one is not before it
value-not-before : (name m : Text) (values rest : NamedValues) → is_less_text name m ≡ false
    → value_named (before m values ++ rest) name ≡ value_named rest name
value-not-before name m [] rest h = refl
value-not-before name m (v ∷ values) rest h = elim (cases_Bool (is_less_text v.0 m)) [
  | inl t ↦ elim (cases_Bool (is_same_text name v.0)) [
    | inl s ↦ absurd (false≢true (sym h ∙ (ap (λ n. is_less_text n m) (same-text name v.0 s) ∙ t)))
    | inr f ↦ rw (t, f) (value-not-before name m values rest h)
  ]
  | inr g ↦ rw g refl
]

-- a name that is less than this one is before it
value-before : (name m : Text) (values rest : NamedValues) → is_less_text name m ≡ true
    → are_in_order (names_of values) ≡ true → value_named rest name ≡ None
    → value_named (before m values ++ rest) name ≡ value_named values name
value-before name m [] rest l o h = h
value-before name m (v ∷ values) rest l o h = elim (cases_Bool (is_less_text v.0 m)) [
  | inl t ↦ elim (cases_Bool (is_same_text name v.0)) [
    | inl s ↦ rw (t, s) refl
    | inr f ↦ rw (t, f) (value-before name m values rest l (order-tail v.0 (names_of values) o) h)
  ]
  | inr g ↦ rw g (h ∙ sym (absent (v ∷ values) name o (less-first g)))
]
  where
    less-first : is_less_text v.0 m ≡ false → is_less_text name v.0 ≡ true
    less-first g = elim (cases_Bool (is_same_text v.0 m)) [
      | inl t ↦ ap (is_less_text name) (same-text v.0 m t) ∙ l
      | inr f ↦ less-then-less name m v.0 l (less-or-more v.0 m f g)
    ]

-- a name that is more than this one is after it
value-after : (name m : Text) (values : NamedValues) → is_less_text m name ≡ true
    → value_named (after m values) name ≡ value_named values name
value-after name m [] l = refl
value-after name m (v ∷ values) l = elim (cases_Bool (is_same_text v.0 m)) [
  | inl t ↦
      let other : is_same_text name v.0 ≡ false =
      more-other name v.0 (ap (λ n. is_less_text n name) (same-text v.0 m t) ∙ l) in
      rw (t, other) refl
  | inr f ↦ elim (cases_Bool (is_less_text v.0 m)) [
    | inl t ↦
        let other : is_same_text name v.0 ≡ false = more-other name v.0 (less-then-less v.0 m name t l) in
        rw (f, t, other) (value-after name m values l)
    | inr g ↦ rw (f, g) refl
  ]
]

value-with-same : (name m : Text) (entry : Option Components) (values : NamedValues) → is_same_text name m ≡ true
    → value_named values name ≡ None → value_named (with_entry m entry values) name ≡ entry
value-with-same name m None values t h = h
value-with-same name m (Some v) values t h = rw t refl

value-with-other : (name m : Text) (entry : Option Components) (values : NamedValues) → is_same_text name m ≡ false
    → value_named (with_entry m entry values) name ≡ value_named values name
value-with-other name m None values f = refl
value-with-other name m (Some v) values f = rw f refl

-- the entry of a name, or else this value
abbrev pub entry_or : NamedEntries → Option Components → Text → Option Components
entry_or [] other name = other
entry_or (e ∷ entries) other name = if is_same_text name e.0 then e.1 else entry_or entries other name

entry-absent : (entries : NamedEntries) (other : Option Components) (name : Text) → are_in_order (entry_names entries) ≡ true
    → leads name (entry_names entries) ≡ true → entry_or entries other name ≡ other
entry-absent [] other name o l = refl
entry-absent (e ∷ entries) other name o l =
    rw (less-other name e.0 l) (entry-absent entries other name (order-tail e.0 (entry_names entries) o)
    (leads-through name e.0 (entry_names entries) l (order-leads e.0 (entry_names entries) o)))

pub merged-value : (entries : NamedEntries) (inherited : NamedValues) (name : Text)
    → are_in_order (entry_names entries) ≡ true → are_in_order (names_of inherited) ≡ true
    → value_named (merged entries inherited) name ≡ entry_or entries (value_named inherited name) name
merged-value [] inherited name o i = refl
merged-value (e ∷ entries) inherited name o i = elim (cases_Bool (is_same_text name e.0)) [
  | inl t ↦
      let same : name ≡ e.0 = same-text name e.0 t in
      rw t (value-not-before name e.0 inherited (with_entry e.0 e.1 rest) (ap (is_less_text name) (sym same) ∙ not-less name)
      ∙ value-with-same name e.0 e.1 rest t (absent rest name in-order
      (ap (λ n. leads n (names_of rest)) same ∙ follow-leads e entries inherited o i)))
  | inr f ↦ elim (cases_Bool (is_less_text name e.0)) [
    | inl l ↦
        let all : are_in_order (names_of (with_entry e.0 e.1 rest)) ≡ true =
        order-with e.0 e.1 rest (follow-leads e entries inherited o i) in-order in
        let none : value_named (with_entry e.0 e.1 rest) name ≡ None =
        absent (with_entry e.0 e.1 rest) name all (leads-with name e.0 e.1 rest l (follow-leads e entries inherited o i)) in
        rw f (value-before name e.0 inherited (with_entry e.0 e.1 rest) l i none
        ∙ sym (entry-absent entries (value_named inherited name) name (order-tail e.0 (entry_names entries) o)
        (leads-through name e.0 (entry_names entries) l (order-leads e.0 (entry_names entries) o))))
    | inr g ↦
        rw f (value-not-before name e.0 inherited (with_entry e.0 e.1 rest) g
        ∙ (value-with-other name e.0 e.1 rest f
        ∙ (merged-value entries (after e.0 inherited) name (order-tail e.0 (entry_names entries) o) (after-order e.0 inherited i)
        ∙ ap (λ other. entry_or entries other name) (value-after name e.0 inherited (less-or-more name e.0 f g)))))
  ]
]
  where
    rest : NamedValues
    rest = merged entries (after e.0 inherited)

    in-order : are_in_order (names_of rest) ≡ true
    in-order = merged-order entries (after e.0 inherited) (order-tail e.0 (entry_names entries) o) (after-order e.0 inherited i)

-- ---- the entries of a table

pub names-of-entries : (values : NamedValues) (table : List Entry) → entry_names (named_entries values table) ≡ names_of values
names-of-entries [] table = refl
names-of-entries (v ∷ values) [] = ap (λ ns. v.0 ∷ ns) (names-of-entries values [])
names-of-entries (v ∷ values) (e ∷ table) = ap (λ ns. v.0 ∷ ns) (names-of-entries values table)

later : (inherited : NamedValues) (e : Entry) (table : List Entry) (name : Text) (place : Option ℕ)
    → entry_at inherited table name place ≡ entry_at inherited (e ∷ table) name (option_map suc place)
later inherited e table name None = refl
later inherited e table name (Some i) = refl

pub entry-by-place : (inherited : NamedValues) (values : NamedValues) (table : List Entry) (name : Text)
    → length table ≡ length values
    → entry_or (named_entries values table) (value_named inherited name) name
    ≡ entry_at inherited table name (place_of name (names_of values))
entry-by-place inherited [] table name l = refl
entry-by-place inherited (v ∷ values) [] name l = absurd (omega (arith, l))
entry-by-place inherited (v ∷ values) (e ∷ table) name l = elim (cases_Bool (is_same_text name v.0)) [
  | inl t ↦ rw t refl
  | inr f ↦
      rw f (entry-by-place inherited values table name (omega (arith, l))
      ∙ later inherited e table name (place_of name (names_of values)))
]

-- ---- a name that both have

pub before_equal : (name : Text) (values : List NamedValue) (i : ℕ) (d : NamedValue) → i < length values
    → Equal ≡ order_of (get_or values i d).name name → before name (values_view (drop i values)) ≡ []
before_equal name [] i d l h = absurd (omega (arith, l))
before_equal name (v ∷ values) zero d l h = rw (sym (order-equal-less v.name name h)) refl
before_equal name (v ∷ values) (suc i) d l h = before_equal name values i d (omega (arith, l)) h
