-- What was made of values that are kept whole.
use Rattle.std.proofs.Common.{◌≡◌, ◌∙◌, ap, sym, refl, ℕ, zero, suc, map, get_or, List, [], ◌∷◌, false}
use Rattle.std.specs.Prelude.{Option, Some, None, option_map, option_and_then}
use Rattle.std.specs.List.{list_any}
use Rattle.std.proofs.lemmas.Bool.{false≢true}
use Rattle.std.proofs.lemmas.Option.{get_or_from_slice_get, slice_get-map}
use Rattle.page_laws.proofs.Options.{or-false}
use Rattle.value_laws.proofs.Places.{in-place}
use Rattle.value_model.specs.declared.prop.Prop.{Prop}
use Rattle.value_model.specs.Properties.{prop_place, properties}
use Rattle.value_model.specs.Values as values
use Rattle.custom_model.specs.Substitution.{Entries}
use Rattle.prop_table.specs.Views.{value_view}
use Rattle.prop_table.specs.declared.value.Value.{Value}
use Rattle.cascade_model.specs.Substituting.{substituted_value}
use Rattle.cascade_core.specs.Tables.{entry}
use Rattle.cascade_core.specs.Views.{kept_value_view}
use Rattle.cascade_core.specs.declared.applied.Applied.{Applied}
use Rattle.cascade_core.specs.declared.kept.KeptValue.{KeptValue}
use Rattle.cascade_core.specs.declared.kept.KeptValue.TheVariants.{Read, Whole}
use Rattle.cascade_core.specs.inner.Mades.{AreMade, is_whole, is_whole_value, made_kept, made_value, whole_after, winner_after}

by-value : (entries : Entries) (made : List (Option Value)) (p : Prop) (k : KeptValue)
    → option_map value_view (get_or made (prop_place p) None) ≡ whole_after entries p k
    → made_kept made p k ≡ substituted_value entries p (kept_value_view k)
by-value entries made p (Read v) h = refl
by-value entries made p (Whole name cs) h = h

by-entry : (entries : Entries) (made : List (Option Value)) (p : Prop) (o : Option Applied)
    → option_map value_view (get_or made (prop_place p) None) ≡ winner_after entries p o
    → made_value made p o
    ≡ option_and_then (substituted_value entries p) (option_map (λ a. kept_value_view a.value.value) o)
by-entry entries made p None h = refl
by-entry entries made p (Some a) h = by-value entries made p a.value.value h

made-at : (f : Prop → Option values.Value) (made : List (Option Value)) (p : Prop)
    → map (option_map value_view) made ≡ map f properties
    → option_map value_view (get_or made (prop_place p) None) ≡ f p
made-at f made p are =
    sym (get_or-map made (prop_place p))
    ∙ (ap (λ l. get_or l (prop_place p) None) are
    ∙ get_or_from_slice_get (map f properties) (prop_place p) (f p) None
    (slice_get-map f properties (prop_place p) ∙ ap (option_map f) (in-place p)))
  where
    get_or-map : (made : List (Option Value)) (k : ℕ)
        → get_or (map (option_map value_view) made) k None ≡ option_map value_view (get_or made k None)
    get_or-map [] k = refl
    get_or-map (o ∷ made) zero = refl
    get_or-map (o ∷ made) (suc k) = get_or-map made k

pub made-are : (entries : Entries) (table : List (Option Applied)) (made : List (Option Value))
    → map (option_map value_view) made ≡ map (λ p. winner_after entries p (entry table p)) properties
    → AreMade entries table made
made-are entries table made are p =
    by-entry entries made p (entry table p)
    (made-at (λ q. winner_after entries q (entry table q)) made p are)

-- ---- none is kept whole

any-false : (table : List (Option Applied)) (k : ℕ) → list_any is_whole table ≡ false
    → is_whole (get_or table k None) ≡ false
any-false [] k h = refl
any-false (o ∷ table) zero h = (or-false (is_whole o) (list_any is_whole table) h).0
any-false (o ∷ table) (suc k) h = any-false table k (or-false (is_whole o) (list_any is_whole table) h).1

none-whole : (entries : Entries) (p : Prop) (o : Option Applied) → is_whole o ≡ false
    → made_value [] p o
    ≡ option_and_then (substituted_value entries p) (option_map (λ a. kept_value_view a.value.value) o)
none-whole entries p None h = refl
none-whole entries p (Some a) h = read-alone a.value.value h
  where
    read-alone : (k : KeptValue) → is_whole_value k ≡ false
        → made_kept [] p k ≡ substituted_value entries p (kept_value_view k)
    read-alone (Read v) h = refl
    read-alone (Whole name cs) h = absurd (false≢true (sym h))

pub none-made : (entries : Entries) (table : List (Option Applied)) → list_any is_whole table ≡ false
    → AreMade entries table []
none-made entries table h p = none-whole entries p (entry table p) (any-false table (prop_place p) h)
