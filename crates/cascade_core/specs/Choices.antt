-- What a property gets.
use Rattle.std.specs.Prelude.{Option}
use Rattle.cascade_model.specs.Defaulting as model
use Rattle.prop_table.specs.Views.{value_view}
use Rattle.value_model.specs.Properties.{property}
use Rattle.value_model.specs.declared.prop.Prop.{Prop}
use Rattle.cascade_core.specs.declared.choices.Choice.{Choice}
use Rattle.cascade_core.specs.declared.choices.Choice.TheVariants as choice

abbrev pub choice_view : Option model.Style → Prop → Choice → model.Chosen
choice_view parent p choice.Inherited = model.ready (model.inherited_value parent p)
choice_view parent p choice.Initial = model.ready (property p).initial
choice_view parent p (choice.Declared v) = model.declared (value_view v.now)
