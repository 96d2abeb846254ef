-- Custom properties with one more declaration, in order of name.
use Rattle.std.proofs.Common.{◌≡◌, ◌∙◌, ap, sym, refl, subst, ℕ, List, [], ◌∷◌, ◌++◌, Bool, true, false, inl, inr}
use Rattle.std.specs.Prelude.{Option, Some, None, option_map, option_and_then, if◌then◌else◌, insert}
use Rattle.std.specs.List.{list_any}
use Rattle.std.proofs.lemmas.Bool.{cases_Bool, false≢true}
use Rattle.std.proofs.lemmas.Option.{same_Some}
use Rattle.css_model.specs.Classes.{Text}
use Rattle.css_model.specs.Components.{Components}
use Rattle.page_model.specs.Attributes.{is_less_text, is_same_text}
use Rattle.page_laws.proofs.AttributesInOrder.{same-text, text-same, less-or-more}
use Rattle.page_laws.proofs.Options.{none-or-some, or-false}
use Rattle.custom_model.specs.NamedValues.{are_in_order, names_of, value_named}
use Rattle.custom_model.specs.inner.Finding.{entries_of, ordered_names}
use Rattle.custom_laws.proofs.Ordered.{leads, order-cons, order-leads, order-tail, leads-through, any-in-order, entries-in-order, entry-found, entry-missing, names-in-order, same-list}
use Rattle.custom_props.proofs.PlacesInOrder.{less-other, more-other}
use Rattle.cascade_model.specs.Applied as model
use Rattle.cascade_model.specs.Cascaded.{components_of_value, custom_names, custom_value}
use Rattle.cascade_model.specs.Kept.{Target, of_custom, of_property}
use Rattle.cascade_model.specs.Order.{winner}
use Rattle.cascade_laws.proofs.Later.{later_of as Later, winner-later, winner-other_later}
use Rattle.cascade_core.specs.AppliedViews.{applied_view}
use Rattle.cascade_core.specs.Views.{kept_value_view}
use Rattle.cascade_core.specs.declared.applied.Applied.{Applied}
use Rattle.cascade_core.specs.declared.customs.CustomWinner.{CustomWinner}
use Rattle.cascade_core.specs.inner.Customs.{AreCustoms, custom_values, found, later_of, name_of, names, offered}
use Rattle.cascade_core.specs.inner.Strength.{yields}
use Rattle.cascade_core.proofs.IsTable.{earlier-wins, later-wins}

-- ---- order

-- the one that wins of two has the name of both
later-name : (w later : CustomWinner) → name_of later ≡ name_of w → name_of (later_of w later) ≡ name_of w
later-name w later same = elim (cases_Bool (yields (Some w.applied) later.applied)) [
  | inl y ↦ rw y same
  | inr n ↦ rw n refl
]

leads-offered : (n : Text) (v : CustomWinner) (entries : List CustomWinner) → is_less_text n (name_of v) ≡ true
    → leads n (names entries) ≡ true → leads n (names (offered v entries)) ≡ true
leads-offered n v [] less l = less
leads-offered n v (w ∷ entries) less l = elim (cases_Bool (is_less_text (name_of w) (name_of v))) [
  | inl t ↦ rw t l
  | inr f ↦ elim (cases_Bool (is_same_text (name_of v) (name_of w))) [
    | inl s ↦
        rw (f, s) (ap (is_less_text n) (later-name w v (same-text (name_of v) (name_of w) s)) ∙ l)
    | inr g ↦ rw (f, g) less
  ]
]

pub order-offered : (v : CustomWinner) (entries : List CustomWinner) → are_in_order (names entries) ≡ true
    → are_in_order (names (offered v entries)) ≡ true
order-offered v [] o = refl
order-offered v (w ∷ entries) o = elim (cases_Bool (is_less_text (name_of w) (name_of v))) [
  | inl t ↦
      rw t (order-cons (name_of w) (names (offered v entries))
      (leads-offered (name_of w) v entries t (order-leads (name_of w) (names entries) o))
      (order-offered v entries (order-tail (name_of w) (names entries) o)))
  | inr f ↦ elim (cases_Bool (is_same_text (name_of v) (name_of w))) [
    | inl s ↦
        let name : name_of (later_of w v) ≡ name_of w = later-name w v (same-text (name_of v) (name_of w) s) in
        rw (f, s) (ap (λ n. are_in_order (n ∷ names entries)) name ∙ o)
    | inr g ↦
        rw (f, g) (order-cons (name_of v) (name_of w ∷ names entries)
        (less-or-more (name_of w) (name_of v) (other-way (name_of v) (name_of w) g) f) o)
  ]
]
  where
    other-way : (a b : Text) → is_same_text a b ≡ false → is_same_text b a ≡ false
    other-way a b f = elim (cases_Bool (is_same_text b a)) [
      | inl t ↦ absurd (false≢true (sym f ∙ (ap (is_same_text a) (same-text b a t) ∙ text-same a)))
      | inr g ↦ g
    ]

-- where it may not have been written
pub order-inserted : (v : CustomWinner) (entries new : List CustomWinner) (i : ℕ) (b : Bool)
    → insert entries i v ≡ offered v entries → are_in_order (names entries) ≡ true
    → new ≡ (if b then insert entries i v else entries) → are_in_order (names new) ≡ true
order-inserted v entries new i true is o written =
    ap (λ es. are_in_order (names es)) (written ∙ is) ∙ order-offered v entries o
order-inserted v entries new i false is o written = ap (λ es. are_in_order (names es)) written ∙ o

-- ---- what is found

-- a name before all of a list is not found in it
pub found-none : (entries : List CustomWinner) (name : Text) → are_in_order (names entries) ≡ true
    → leads name (names entries) ≡ true → found entries name ≡ None
found-none [] name o l = refl
found-none (w ∷ entries) name o l =
    rw (less-other name (name_of w) l)
    (found-none entries name (order-tail (name_of w) (names entries) o)
    (leads-through name (name_of w) (names entries) l (order-leads (name_of w) (names entries) o)))

-- the one that wins of the one found and a later one
abbrev picked : Option Applied → Applied → Applied
picked None d = d
picked (Some w) d = if yields (Some w) d then d else w

picked-is : (w v : CustomWinner) → (later_of w v).applied ≡ picked (Some w.applied) v.applied
picked-is w v = elim (cases_Bool (yields (Some w.applied) v.applied)) [
  | inl y ↦ rw y refl
  | inr n ↦ rw n refl
]

-- of the name of the one that was added
found-own : (v : CustomWinner) (entries : List CustomWinner) → are_in_order (names entries) ≡ true
    → found (offered v entries) (name_of v) ≡ Some (picked (found entries (name_of v)) v.applied)
found-own v [] o = rw (text-same (name_of v)) refl
found-own v (w ∷ entries) o = elim (cases_Bool (is_less_text (name_of w) (name_of v))) [
  | inl t ↦
      let other : is_same_text (name_of v) (name_of w) ≡ false = more-other (name_of v) (name_of w) t in
      rw (t, other) (found-own v entries (order-tail (name_of w) (names entries) o))
  | inr f ↦ elim (cases_Bool (is_same_text (name_of v) (name_of w))) [
    | inl s ↦
        let name : name_of (later_of w v) ≡ name_of w = later-name w v (same-text (name_of v) (name_of w) s) in
        let own : is_same_text (name_of v) (name_of (later_of w v)) ≡ true = ap (is_same_text (name_of v)) name ∙ s in
        rw (f, s) (rw own (ap Some (picked-is w v)))
    | inr g ↦
        let less : is_less_text (name_of v) (name_of w) ≡ true = before (name_of v) (name_of w) g f in
        let none : found entries (name_of v) ≡ None =
        found-none entries (name_of v) (order-tail (name_of w) (names entries) o)
        (leads-through (name_of v) (name_of w) (names entries) less (order-leads (name_of w) (names entries) o)) in
        rw (f, g) (rw (text-same (name_of v), none) refl)
  ]
]
  where
    before : (a b : Text) → is_same_text a b ≡ false → is_less_text b a ≡ false → is_less_text a b ≡ true
    before a b f g = elim (cases_Bool (is_less_text a b)) [
      | inl t ↦ t
      | inr h ↦ absurd (false≢true (sym g ∙ less-or-more a b f h))
    ]

-- of another name
found-other : (v : CustomWinner) (entries : List CustomWinner) (name : Text) → is_same_text name (name_of v) ≡ false
    → found (offered v entries) name ≡ found entries name
found-other v [] name f = rw f refl
found-other v (w ∷ entries) name f = elim (cases_Bool (is_less_text (name_of w) (name_of v))) [
  | inl t ↦ elim (cases_Bool (is_same_text name (name_of w))) [
    | inl s ↦ rw t (rw s refl)
    | inr g ↦ rw t (rw g (found-other v entries name f))
  ]
  | inr t ↦ elim (cases_Bool (is_same_text (name_of v) (name_of w))) [
    | inl s ↦
        let own : name_of (later_of w v) ≡ name_of w = later-name w v (same-text (name_of v) (name_of w) s) in
        let not-here : is_same_text name (name_of w) ≡ false =
        ap (is_same_text name) (sym (same-text (name_of v) (name_of w) s)) ∙ f in
        let not-there : is_same_text name (name_of (later_of w v)) ≡ false = ap (is_same_text name) own ∙ not-here in
        rw (t, s) (rw (not-there, not-here) refl)
    | inr g ↦ rw (t, g) (rw f refl)
  ]
]

-- ---- winners

picked-wins : (t : Target) (o : Option Applied) (d : Applied)
    → Later (option_map (applied_view t) o) (applied_view t d) ≡ applied_view t (picked o d)
picked-wins t None d = refl
picked-wins t (Some w) d = elim (cases_Bool (yields (Some w) d)) [
  | inl y ↦ rw y (later-wins t (Some w) d y)
  | inr n ↦
      rw n (same_Some (Later (Some (applied_view t w)) (applied_view t d)) (applied_view t w) (earlier-wins t (Some w) d n))
]

pub customs-offered : (v : CustomWinner) (entries : List CustomWinner) (ds : List model.Applied) → AreCustoms entries ds
    → AreCustoms (offered v entries) (ds ++ applied_view (of_custom (name_of v)) v.applied ∷ [])
customs-offered v entries ds are = record {
  in_order = order-offered v entries are.in_order;
  winners = each;
}
  where
    d : model.Applied
    d = applied_view (of_custom (name_of v)) v.applied

    each : (name : Text) → option_map (applied_view (of_custom name)) (found (offered v entries) name)
        ≡ winner (of_custom name) (ds ++ d ∷ [])
    each name = elim (cases_Bool (is_same_text name (name_of v))) [
      | inl s ↦
          let own : name_of v ≡ name = sym (same-text name (name_of v) s) in
          let found_is : found (offered v entries) name ≡ Some (picked (found entries name) v.applied) =
          subst (λ (n : Text). found (offered v entries) n ≡ Some (picked (found entries n) v.applied)) own
          (found-own v entries are.in_order) in
          ap (option_map (applied_view (of_custom name))) found_is
          ∙ (ap Some (sym (picked-wins (of_custom name) (found entries name) v.applied))
          ∙ (ap (λ o. Some (Later o (applied_view (of_custom name) v.applied))) (are.winners name)
          ∙ (ap (λ n. Some (Later (winner (of_custom name) ds) (applied_view (of_custom n) v.applied))) (sym own)
          ∙ sym (winner-later (of_custom name) ds d s))))
      | inr f ↦
          ap (option_map (applied_view (of_custom name))) (found-other v entries name f)
          ∙ (are.winners name ∙ sym (winner-other_later (of_custom name) ds d f))
    ]

-- none
pub no-customs : AreCustoms [] []
no-customs = record { in_order = refl; winners = λ name. refl }

-- ---- the values that win

leads-values : (n : Text) (entries : List CustomWinner) → are_in_order (names entries) ≡ true
    → leads n (names entries) ≡ true → leads n (names_of (custom_values entries)) ≡ true
leads-values n [] o l = refl
leads-values n (w ∷ entries) o l = elim (none-or-some (components_of_value (kept_value_view w.applied.value.value))) [
  | inl k ↦
      rw k (leads-values n entries (order-tail (name_of w) (names entries) o)
      (leads-through n (name_of w) (names entries) l (order-leads (name_of w) (names entries) o)))
  | inr s ↦ rw s.1 l
]

pub values-in-order : (entries : List CustomWinner) → are_in_order (names entries) ≡ true
    → are_in_order (names_of (custom_values entries)) ≡ true
values-in-order [] o = refl
values-in-order (w ∷ entries) o = elim (none-or-some (components_of_value (kept_value_view w.applied.value.value))) [
  | inl k ↦ rw k (values-in-order entries (order-tail (name_of w) (names entries) o))
  | inr s ↦
      rw s.1 (order-cons (name_of w) (names_of (custom_values entries))
      (leads-values (name_of w) entries (order-tail (name_of w) (names entries) o) (order-leads (name_of w) (names entries) o))
      (values-in-order entries (order-tail (name_of w) (names entries) o)))
]

-- the component values of the one that is found
abbrev value_found : List CustomWinner → Text → Option Components
value_found entries name =
    option_and_then components_of_value (option_map (λ a. kept_value_view a.value.value) (found entries name))

value-absent : (entries : List CustomWinner) (name : Text) → are_in_order (names entries) ≡ true
    → leads name (names entries) ≡ true → value_named (custom_values entries) name ≡ None
value-absent [] name o l = refl
value-absent (w ∷ entries) name o l =
    let rest : value_named (custom_values entries) name ≡ None =
    value-absent entries name (order-tail (name_of w) (names entries) o)
    (leads-through name (name_of w) (names entries) l (order-leads (name_of w) (names entries) o)) in
    elim (none-or-some (components_of_value (kept_value_view w.applied.value.value))) [
      | inl k ↦ rw k rest
      | inr s ↦ rw (s.1, less-other name (name_of w) l) rest
    ]

value-is : (entries : List CustomWinner) (name : Text) → are_in_order (names entries) ≡ true
    → value_named (custom_values entries) name ≡ value_found entries name
value-is [] name o = refl
value-is (w ∷ entries) name o = elim (cases_Bool (is_same_text name (name_of w))) [
  | inl t ↦
      let same : name ≡ name_of w = same-text name (name_of w) t in
      let absent : value_named (custom_values entries) name ≡ None =
      value-absent entries name (order-tail (name_of w) (names entries) o)
      (ap (λ n. leads n (names entries)) same ∙ order-leads (name_of w) (names entries) o) in
      elim (none-or-some (components_of_value (kept_value_view w.applied.value.value))) [
        | inl k ↦ rw (k, t) (absent ∙ sym k)
        | inr s ↦ rw (s.1, t) (sym s.1)
      ]
  | inr f ↦ elim (none-or-some (components_of_value (kept_value_view w.applied.value.value))) [
    | inl k ↦ rw (k, f) (value-is entries name (order-tail (name_of w) (names entries) o))
    | inr s ↦ rw (s.1, f) (value-is entries name (order-tail (name_of w) (names entries) o))
  ]
]

-- a custom property that is not declared has no winner
not-declared : (ds : List model.Applied) (name : Text) → list_any (is_same_text name) (custom_names ds) ≡ false
    → winner (of_custom name) ds ≡ None
not-declared [] name h = refl
not-declared (d ∷ ds) name h = by-target d.target refl (not-declared ds name) h
  where
    by-target : (t : Target) → d.target ≡ t
        → (list_any (is_same_text name) (custom_names ds) ≡ false → winner (of_custom name) ds ≡ None)
        → list_any (is_same_text name) (custom_names (d ∷ ds)) ≡ false → winner (of_custom name) (d ∷ ds) ≡ None
    by-target (of_property p) is rest h = rw is (rest (rw is at h))
    by-target (of_custom n) is rest h =
        let parts = or-false (is_same_text name n) (list_any (is_same_text name) (custom_names ds)) (rw is at h) in
        rw is (rw parts.0 (rest parts.1))

custom-is : (entries : List CustomWinner) (ds : List model.Applied) → AreCustoms entries ds → (name : Text)
    → value_named (custom_values entries) name ≡ custom_value ds name
custom-is entries ds are name =
    value-is entries name are.in_order
    ∙ (value-seen name (found entries name)
    ∙ ap (λ o. option_and_then components_of_value (option_map (λ d. d.value) o)) (are.winners name))
  where
    value-seen : (name : Text) (o : Option Applied)
        → option_and_then components_of_value (option_map (λ a. kept_value_view a.value.value) o)
        ≡ option_and_then components_of_value (option_map (λ d. d.value) (option_map (applied_view (of_custom name)) o))
    value-seen name None = refl
    value-seen name (Some a) = refl

pub customs-are : (entries : List CustomWinner) (ds : List model.Applied) → AreCustoms entries ds
    → custom_values entries ≡ entries_of (custom_value ds) (ordered_names (custom_names ds))
customs-are entries ds are =
    same-list (custom_values entries) (entries_of (custom_value ds) (ordered_names (custom_names ds)))
    (values-in-order entries are.in_order)
    (entries-in-order (custom_value ds) (ordered_names (custom_names ds)) (names-in-order (custom_names ds)))
    (λ name. custom-is entries ds are name ∙ sym (entry-there name))
  where
    entry-there : (name : Text) → value_named (entries_of (custom_value ds) (ordered_names (custom_names ds))) name
        ≡ custom_value ds name
    entry-there name = elim (cases_Bool (list_any (is_same_text name) (ordered_names (custom_names ds)))) [
      | inl t ↦ entry-found (custom_value ds) (ordered_names (custom_names ds)) name t
      | inr f ↦
          entry-missing (custom_value ds) (ordered_names (custom_names ds)) name f
          ∙ sym (ap (λ o. option_and_then components_of_value (option_map (λ d. d.value) o))
          (not-declared ds name (sym (any-in-order name (custom_names ds)) ∙ f)))
    ]

-- one at a time
pub values-cons : (w : CustomWinner) (entries : List CustomWinner)
    → custom_values (w ∷ entries) ≡ custom_values (w ∷ []) ++ custom_values entries
values-cons w entries = elim (none-or-some (components_of_value (kept_value_view w.applied.value.value))) [
  | inl k ↦ rw k refl
  | inr s ↦ rw s.1 refl
]
