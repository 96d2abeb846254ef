-- Which names with values of the definitions an environment has.
use Rattle.custom_model.specs.NamedValues.{NamedValues}
use Rattle.custom_props.specs.Views.{values_view}
use Rattle.custom_props.specs.declared.env.Env.{Env}

abbrev pub env_view : Env → NamedValues
env_view e = values_view e.values
