-- Names that are reached are found, and the other way round.
use Rattle.std.proofs.Common.{◌≡◌, ◌∙◌, ◌↔◌, ◌&&◌, ap, sym, refl, List, [], ◌∷◌, Bool, true, false, inl, inr, Option, Some, None, option_map, unwrap_or}
use Rattle.std.specs.List.{list_any}
use Rattle.std.proofs.lemmas.Bool.{cases_Bool, false≢true}
use Rattle.css_model.specs.Classes.{Text}
use Rattle.css_model.specs.Components.{Components}
use Rattle.page_model.specs.Attributes.{is_same_text}
use Rattle.page_laws.proofs.AttributesInOrder.{same-text}
use Rattle.page_laws.proofs.Options.{both-true, true-or, true-or-left, true-or-right}
use Rattle.custom_model.specs.Cycles.{refers, IsReached, directly, through, IsOnCycle}
use Rattle.custom_model.specs.NamedValues.{NamedValues, value_named, names_of}
use Rattle.custom_model.specs.References.{names_in}
use Rattle.custom_model.specs.inner.Finding.{is_reached_by, is_reached, is_on_cycle}

-- ---- what is found is reached

pub reached-then-reached : (declared : NamedValues) (from via to : Text)
    → IsReached declared from via → IsReached declared via to → IsReached declared from to
reached-then-reached declared from via to (directly h) r = through via h r
reached-then-reached declared from via to (through next h s) r =
    through next h (reached-then-reached declared next via to s r)

pub found-reached : (declared : NamedValues) (vias : List Text) (from to : Text)
    → is_reached_by declared vias from to ≡ true → IsReached declared from to
found-reached declared [] from to h = directly h
found-reached declared (via ∷ vias) from to h = elim (true-or (is_reached_by declared vias from to) (is_reached_by declared vias from via && is_reached_by declared vias via to) h) [
  | inl k ↦ found-reached declared vias from to k
  | inr k ↦
      let parts = both-true (is_reached_by declared vias from via) (is_reached_by declared vias via to) k in
      reached-then-reached declared from via to
      (found-reached declared vias from via parts.0) (found-reached declared vias via to parts.1)
]

-- ---- what is reached is found

pub found-directly : (declared : NamedValues) (vias : List Text) (from to : Text)
    → refers declared from to ≡ true → is_reached_by declared vias from to ≡ true
found-directly declared [] from to h = h
found-directly declared (via ∷ vias) from to h =
    true-or-left (is_reached_by declared vias from to) (is_reached_by declared vias from via && is_reached_by declared vias via to)
    (found-directly declared vias from to h)

both : (a b : Bool) → a ≡ true → b ≡ true → (a && b) ≡ true
both a b h k = rw (h, k) refl

-- by way of one more name
found-by-way : (declared : NamedValues) (vias : List Text) (from via to : Text)
    → is_reached_by declared vias from via ≡ true → is_reached_by declared vias via to ≡ true
    → is_reached_by declared (via ∷ vias) from to ≡ true
found-by-way declared vias from via to h k =
    true-or-right (is_reached_by declared vias from to) (is_reached_by declared vias from via && is_reached_by declared vias via to)
    (both (is_reached_by declared vias from via) (is_reached_by declared vias via to) h k)

found-as-before : (declared : NamedValues) (vias : List Text) (from via to : Text)
    → is_reached_by declared vias from to ≡ true → is_reached_by declared (via ∷ vias) from to ≡ true
found-as-before declared vias from via to h =
    true-or-left (is_reached_by declared vias from to) (is_reached_by declared vias from via && is_reached_by declared vias via to) h

-- one reference more in front
found-step : (declared : NamedValues) (vias : List Text) (from via to : Text)
    → list_any (is_same_text via) vias ≡ true → refers declared from via ≡ true
    → is_reached_by declared vias via to ≡ true → is_reached_by declared vias from to ≡ true
found-step declared [] from via to m h r = absurd (false≢true m)
found-step declared (n ∷ vias) from via to m h r = elim (true-or (is_same_text via n) (list_any (is_same_text via) vias) m) [
  | inl t ↦
      let same : via ≡ n = same-text via n t in
      let edge : is_reached_by declared vias from n ≡ true = ap (is_reached_by declared vias from) (sym same) ∙ found-directly declared vias from via h in
      elim (true-or (is_reached_by declared vias via to) (is_reached_by declared vias via n && is_reached_by declared vias n to) r) [
        | inl k ↦ found-by-way declared vias from n to edge (ap (λ x. is_reached_by declared vias x to) (sym same) ∙ k)
        | inr k ↦ found-by-way declared vias from n to edge (both-true (is_reached_by declared vias via n) (is_reached_by declared vias n to) k).1
      ]
  | inr t ↦ elim (true-or (is_reached_by declared vias via to) (is_reached_by declared vias via n && is_reached_by declared vias n to) r) [
    | inl k ↦ found-as-before declared vias from n to (found-step declared vias from via to t h k)
    | inr k ↦
        let parts = both-true (is_reached_by declared vias via n) (is_reached_by declared vias n to) k in
        found-by-way declared vias from n to (found-step declared vias from via n t h parts.0) parts.1
  ]
]

-- a name that has a value is among the names
pub named-among : (values : NamedValues) (name : Text) (value : Components) → value_named values name ≡ Some value
    → list_any (is_same_text name) (names_of values) ≡ true
named-among [] name value h = absurd (none-is-not value h)
  where
    none-is-not : (v : Components) → None ≡ Some v → ⊥
    none-is-not v e = false≢true (ap is-some e)
      where
        is-some : Option Components → Bool
        is-some None = false
        is-some (Some x) = true
named-among (v ∷ values) name value h = elim (cases_Bool (is_same_text name v.0)) [
  | inl t ↦ rw t refl
  | inr f ↦ rw f (named-among values name value (rw f at h))
]

-- a name that refers to another has a value
refers-by : (o : Option Components) (to : Text) → list_any (is_same_text to) (unwrap_or (option_map names_in o) []) ≡ true
    → (value : Components) × (o ≡ Some value)
refers-by None to h = absurd (false≢true h)
refers-by (Some value) to h = (value, refl)

pub refers-named : (declared : NamedValues) (from to : Text) → refers declared from to ≡ true
    → (value : Components) × (value_named declared from ≡ Some value)
refers-named declared from to h = refers-by (value_named declared from) to h

refers-among : (declared : NamedValues) (from to : Text) → refers declared from to ≡ true
    → list_any (is_same_text from) (names_of declared) ≡ true
refers-among declared from to h =
    let named = refers-named declared from to h in named-among declared from named.0 named.1

reached-among : (declared : NamedValues) (from to : Text) → IsReached declared from to
    → list_any (is_same_text from) (names_of declared) ≡ true
reached-among declared from to (directly h) = refers-among declared from to h
reached-among declared from to (through via h r) = refers-among declared from via h

pub reached-found : (declared : NamedValues) (from to : Text) → IsReached declared from to → is_reached declared from to ≡ true
reached-found declared from to (directly h) = found-directly declared (names_of declared) from to h
reached-found declared from to (through via h r) =
    found-step declared (names_of declared) from via to (reached-among declared via to r) h (reached-found declared via to r)

pub reached-both : (declared : NamedValues) (from to : Text) → (is_reached declared from to ≡ true) ↔ IsReached declared from to
reached-both declared from to = (found-reached declared (names_of declared) from to, reached-found declared from to)

pub cycle-both : (declared : NamedValues) (name : Text) → (is_on_cycle declared name ≡ true) ↔ IsOnCycle declared name
cycle-both declared name = reached-both declared name name
