-- The values that win are those of the winners.
use Rattle.std.proofs.Common.{◌≡◌, ◌∙◌, ap, refl, List}
use Rattle.std.specs.Prelude.{Option, Some, None, option_map}
use Rattle.cascade_model.specs.Applied as model
use Rattle.cascade_model.specs.Cascaded.{cascaded_of, custom_names, custom_value, value_that_wins, without_author}
use Rattle.cascade_model.specs.Kept.{Target, of_property}
use Rattle.custom_model.specs.inner.Finding.{entries_of, ordered_names}
use Rattle.custom_props.specs.EnvView.{env_view}
use Rattle.value_model.specs.declared.prop.Prop.{Prop}
use Rattle.cascade_core.specs.AppliedViews.{applied_view}
use Rattle.cascade_core.specs.Tables.{IsTable, entry}
use Rattle.cascade_core.specs.Views.{kept_value_view}
use Rattle.cascade_core.specs.WinnersView.{cascaded_view}
use Rattle.cascade_core.specs.declared.applied.Applied.{Applied}
use Rattle.cascade_core.specs.declared.winners.Winners.{Winners}

value-seen : (t : Target) (o : Option Applied) → option_map (λ a. kept_value_view a.value.value) o
    ≡ option_map (λ d. d.value) (option_map (applied_view t) o)
value-seen t None = refl
value-seen t (Some a) = refl

wins : (entries : List (Option Applied)) (ds : List model.Applied) → IsTable entries ds → (p : Prop)
    → option_map (λ a. kept_value_view a.value.value) (entry entries p) ≡ value_that_wins ds (of_property p)
wins entries ds are p =
    value-seen (of_property p) (entry entries p) ∙ ap (option_map (λ d. d.value)) (are p)

pub winners-are : (w : Winners) (ds : List model.Applied) → IsTable w.all ds
    → IsTable w.user_agent (without_author ds)
    → env_view w.custom ≡ entries_of (custom_value ds) (ordered_names (custom_names ds))
    → cascaded_view w ≡ cascaded_of ds
winners-are w ds all user_agent custom = λ j. record {
  of_all = λ p. wins w.all ds all p j;
  of_user_agent = λ p. wins w.user_agent (without_author ds) user_agent p j;
  custom = custom j;
}
