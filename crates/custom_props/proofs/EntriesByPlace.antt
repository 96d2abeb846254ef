-- The entry of a name by its place.
use Rattle.std.proofs.Common.{◌≡◌, ◌∙◌, ap, sym, refl, ℕ, zero, suc, ◌<◌, length, get_or, arith, List, [], ◌∷◌, inl, inr, Option, Some, None, option_map, option_and_then}
use Rattle.std.specs.Prelude.{slice_get}
use Rattle.std.proofs.lemmas.Bool.{cases_Bool}
use Rattle.std.proofs.lemmas.Option.{none-some}
use Rattle.css_model.specs.Classes.{Text}
use Rattle.css_model.specs.Components.{Components}
use Rattle.css_tokens.specs.Nested.{components_view}
use Rattle.page_model.specs.Attributes.{is_same_text}
use Rattle.custom_model.specs.NamedValues.{NamedValues, names_of, value_named}
use Rattle.custom_props.specs.Views.{value_view, values_view}
use Rattle.custom_props.specs.declared.named_value.NamedValue.{NamedValue}
use Rattle.custom_props.specs.inner.Places.{place_of}

-- the value in a place, if there is a place
abbrev pub value_in : NamedValues → Option ℕ → Option Components
value_in values place = option_and_then (λ i. option_map (λ v. v.1) (slice_get values i)) place

later : (v : Text × Components) (values : NamedValues) (place : Option ℕ)
    → value_in (v ∷ values) (option_map suc place) ≡ value_in values place
later v values None = refl
later v values (Some i) = refl

pub value-is : (values : NamedValues) (name : Text)
    → value_named values name ≡ value_in values (place_of name (names_of values))
value-is [] name = refl
value-is (v ∷ values) name = elim (cases_Bool (is_same_text name v.0)) [
  | inl t ↦ rw t refl
  | inr f ↦ rw f (value-is values name ∙ sym (later v values (place_of name (names_of values))))
]

value-seen : (values : List NamedValue) (i : ℕ) (v : NamedValue) → slice_get values i ≡ Some v
    → slice_get (values_view values) i ≡ Some (value_view v)
value-seen [] i v h = absurd (none-some v h)
value-seen (w ∷ values) zero v h = ap (option_map value_view) h
value-seen (w ∷ values) (suc i) v h = value-seen values i v h

pub value-at : (values : List NamedValue) (name : Text) (i : ℕ) (v : NamedValue)
    → Some i ≡ place_of name (names_of (values_view values)) → slice_get values i ≡ Some v
    → Some (components_view v.value.value) ≡ value_named (values_view values) name
value-at values name i v h k =
    sym (value-is (values_view values) name
    ∙ (ap (value_in (values_view values)) (sym h)
    ∙ ap (option_map (λ w. w.1)) (value-seen values i v k)))

pub value-none : (values : List NamedValue) (name : Text)
    → None ≡ place_of name (names_of (values_view values)) → None ≡ value_named (values_view values) name
value-none values name h =
    sym (value-is (values_view values) name ∙ ap (value_in (values_view values)) (sym h))

pub got : {X : Type 0} (xs : List X) (i : ℕ) (d : X) → i < length xs → slice_get xs i ≡ Some (get_or xs i d)
got [] i d h = absurd (omega (arith, h))
got (x ∷ xs) zero d h = refl
got (x ∷ xs) (suc i) d h = got xs i d (omega (arith, h))

pub name-at : (values : List NamedValue) (i : ℕ) (v : NamedValue) → Some v ≡ slice_get values i
    → Some v.name ≡ slice_get (names_of (values_view values)) i
name-at [] i v h = absurd (none-some v (sym h))
name-at (w ∷ values) zero v h = ap (option_map (λ x. x.name)) h
name-at (w ∷ values) (suc i) v h = name-at values i v h
