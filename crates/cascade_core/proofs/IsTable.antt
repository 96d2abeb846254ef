-- Winners with one more declaration at the end.
use Rattle.std.proofs.Common.{◌≡◌, ◌∙◌, ap, sym, refl, subst, ℕ, zero, suc, ◌<◌, length, get_or, List, [], ◌∷◌, ◌++◌, Bool, true, false, inl, inr}
use Rattle.std.specs.Prelude.{Option, Some, None, option_map, not}
use Rattle.std.specs.List.{slice_set}
use Rattle.std.proofs.lemmas.Bool.{cases_Bool, eqb-false, false≢true}
use Rattle.std.proofs.lemmas.List.{get_or-set_same, get_or-set_other}
use Rattle.std.proofs.lemmas.Option.{get_or_from_slice_get, slice_get_read}
use Rattle.value_model.specs.declared.prop.Prop.{Prop}
use Rattle.value_model.specs.Properties.{prop_place, is_same_prop}
use Rattle.value_laws.proofs.Places.{same-is}
use Rattle.css_model.specs.Classes.{Text}
use Rattle.cascade_model.specs.Applied as model
use Rattle.cascade_model.specs.Kept.{Target, of_property, of_custom, is_same_target}
use Rattle.cascade_model.specs.Order.{winner}
use Rattle.cascade_laws.proofs.Later.{later_of, winner-later, winner-other_later}
use Rattle.cascade_core.specs.AppliedViews.{applied_view}
use Rattle.cascade_core.specs.Tables.{IsTable, Offers, entry}
use Rattle.cascade_core.specs.declared.applied.Applied.{Applied}
use Rattle.cascade_core.specs.inner.Strength.{is_stronger, yields}

pub not-false : (b : Bool) → not b ≡ true → b ≡ false
not-false true e = absurd (false≢true e)
not-false false e = refl

pub not-true : (b : Bool) → not b ≡ false → b ≡ true
not-true true e = refl
not-true false e = absurd (false≢true (sym e))

-- what yields is not the winner any more
pub later-wins : (t : Target) (o : Option Applied) (d : Applied) → yields o d ≡ true
    → later_of (option_map (applied_view t) o) (applied_view t d) ≡ applied_view t d
later-wins t None d y = refl
later-wins t (Some w) d y = rw (not-false (is_stronger w d) y) refl

-- what does not is
pub earlier-wins : (t : Target) (o : Option Applied) (d : Applied) → yields o d ≡ false
    → Some (later_of (option_map (applied_view t) o) (applied_view t d)) ≡ option_map (applied_view t) o
earlier-wins t None d y = absurd (false≢true (sym y))
earlier-wins t (Some w) d y = rw (not-true (is_stronger w d) y) refl

-- where it yields
taken : (old : List (Option Applied)) (q : Prop) (later : Applied) → prop_place q < length old
    → yields (entry old q) later ≡ true
    → Offers old (slice_set old (prop_place q) (Some later)) (applied_view (of_property q) later)
taken old q later within y ds are p = elim (cases_Bool (is_same_prop p q)) [
  | inl same ↦
      let here : p ≡ q = same-is p q same in
      let entry_is : entry (slice_set old (prop_place q) (Some later)) p ≡ Some later =
      ap (entry (slice_set old (prop_place q) (Some later))) here
      ∙ get_or-set_same old (prop_place q) (Some later) None within in
      let wins : winner (of_property p) (ds ++ applied_view (of_property q) later ∷ [])
      ≡ Some (later_of (winner (of_property p) ds) (applied_view (of_property q) later)) =
      winner-later (of_property p) ds (applied_view (of_property q) later) same in
      let before : winner (of_property p) ds ≡ option_map (applied_view (of_property q)) (entry old q) =
      sym (are p) ∙ ap (λ r. option_map (applied_view (of_property r)) (entry old r)) here in
      ap (option_map (applied_view (of_property p))) entry_is
      ∙ (ap (λ r. Some (applied_view (of_property r) later)) here
      ∙ sym (wins ∙ (ap (λ o. Some (later_of o (applied_view (of_property q) later))) before
      ∙ ap Some (later-wins (of_property q) (entry old q) later y))))
  | inr other ↦
      ap (option_map (applied_view (of_property p)))
      (get_or-set_other old (prop_place q) (prop_place p) (Some later) None
      (eqb-false (prop_place p) (prop_place q) other))
      ∙ (are p ∙ sym (winner-other_later (of_property p) ds (applied_view (of_property q) later) other))
]

-- where it does not
left : (old : List (Option Applied)) (q : Prop) (later : Applied) → yields (entry old q) later ≡ false
    → Offers old old (applied_view (of_property q) later)
left old q later y ds are p = elim (cases_Bool (is_same_prop p q)) [
  | inl same ↦
      let here : p ≡ q = same-is p q same in
      let wins : winner (of_property p) (ds ++ applied_view (of_property q) later ∷ [])
      ≡ Some (later_of (winner (of_property p) ds) (applied_view (of_property q) later)) =
      winner-later (of_property p) ds (applied_view (of_property q) later) same in
      let before : winner (of_property p) ds ≡ option_map (applied_view (of_property q)) (entry old q) =
      sym (are p) ∙ ap (λ r. option_map (applied_view (of_property r)) (entry old r)) here in
      are p
      ∙ (before
      ∙ sym (wins ∙ (ap (λ o. Some (later_of o (applied_view (of_property q) later))) before
      ∙ earlier-wins (of_property q) (entry old q) later y)))
  | inr other ↦ are p ∙ sym (winner-other_later (of_property p) ds (applied_view (of_property q) later) other)
]

-- of a custom property
pub offer-custom : (old : List (Option Applied)) (name : Text) (d : model.Applied) → d.target ≡ of_custom name
    → Offers old old d
offer-custom old name d of ds are p =
    are p ∙ sym (winner-other_later (of_property p) ds d (ap (is_same_target (of_property p)) of))

-- ---- as code does it

entry-is : (old : List (Option Applied)) (p : Prop) (x : Option Applied) → prop_place p < length old
    → x ≡ get_or old (prop_place p) x → entry old p ≡ x
entry-is old p x within is =
    get_or_from_slice_get old (prop_place p) x None (slice_get_read old (length old) (prop_place p) x refl within is)

yielded-here : (old : List (Option Applied)) (q : Prop) (later : Applied) (best : Option Applied) (place : ℕ) (b : Bool)
    → place ≡ prop_place q → place < length old → best ≡ get_or old place best
    → b ≡ yields best later → yields (entry old q) later ≡ b
yielded-here old q later best place b at within best-is b-is =
    ap (λ o. yields o later)
    (entry-is old q best (subst (λ k. k < length old) at within)
    (subst (λ k. best ≡ get_or old k best) at best-is))
    ∙ sym b-is

pub offer-taken : (old new : List (Option Applied)) (q : Prop) (later : Applied) (best : Option Applied) (place : ℕ)
    (b : Bool) → place ≡ prop_place q → place < length old → best ≡ get_or old place best
    → b ≡ yields best later → b ≡ true
    → new ≡ slice_set old place (Some later) → Offers old new (applied_view (of_property q) later)
offer-taken old new q later best place b at within best-is b-is b-true new-is =
    subst (λ entries. Offers old entries (applied_view (of_property q) later))
    (sym (new-is ∙ ap (λ k. slice_set old k (Some later)) at))
    (taken old q later (subst (λ k. k < length old) at within)
    (yielded-here old q later best place b at within best-is b-is ∙ b-true))

pub offer-left : (old : List (Option Applied)) (q : Prop) (later : Applied) (best : Option Applied) (place : ℕ)
    (b : Bool) → place ≡ prop_place q → place < length old → best ≡ get_or old place best
    → b ≡ yields best later → b ≡ false
    → Offers old old (applied_view (of_property q) later)
offer-left old q later best place b at within best-is b-is b-false =
    left old q later (yielded-here old q later best place b at within best-is b-is ∙ b-false)

-- ---- none

-- one place more without a declaration
pub none-more : (entries : List (Option Applied)) → ((k : ℕ) → get_or entries k None ≡ None)
    → (k : ℕ) → get_or (entries ++ None ∷ []) k None ≡ None
none-more [] none zero = refl
none-more [] none (suc k) = refl
none-more (o ∷ entries) none zero = none zero
none-more (o ∷ entries) none (suc k) = none-more entries (λ j. none (suc j)) k

pub none-wins : (entries : List (Option Applied)) → ((k : ℕ) → get_or entries k None ≡ None)
    → IsTable entries []
none-wins entries none p = ap (option_map (applied_view (of_property p))) (none (prop_place p))
