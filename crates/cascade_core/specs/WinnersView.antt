-- Which values win.
use Rattle.std.specs.Prelude.{option_map}
use Rattle.cascade_model.specs.Cascaded as model
use Rattle.custom_props.specs.EnvView.{env_view}
use Rattle.cascade_core.specs.Tables.{entry}
use Rattle.cascade_core.specs.Views.{kept_value_view}
use Rattle.cascade_core.specs.declared.winners.Winners.{Winners}

abbrev pub cascaded_view : Winners → model.Cascaded
cascaded_view w = record {
  of_all = λ p. option_map (λ a. kept_value_view a.value.value) (entry w.all p);
  of_user_agent = λ p. option_map (λ a. kept_value_view a.value.value) (entry w.user_agent p);
  custom = env_view w.custom;
}
