-- The values of elements of which nothing is declared but `display`.
use Rattle.std.specs.Prelude.{◌≡◌, List, map, option_map}
use Rattle.value_model.specs.declared.keyword.Keyword.{Keyword}
use Rattle.value_model.specs.declared.keyword.Keyword.TheVariants.{Block, Inline}
use Rattle.value_model.specs.declared.prop.Prop.{Prop}
use Rattle.value_model.specs.declared.prop.Prop.TheVariants.{Display}
use Rattle.value_model.specs.Properties.{property, properties}
use Rattle.value_model.specs.Values as values
use Rattle.cascade_model.specs.Defaulting.{width_beside, style_of_border}
use Rattle.prop_table.specs.Styles.{style_view}
use Rattle.prop_table.specs.declared.final_value.Final.{Final}
use Rattle.cascade_core.specs.declared.defaults.Defaults.{Defaults}

-- the initial value; a border without a style has no width (CSS Backgrounds 3, section 3.3)
abbrev pub default_value : Keyword → Prop → values.Final
default_value display Display = values.keyword display
default_value display p =
    width_beside (option_map (λ q. (property q).initial) (style_of_border p)) (property p).initial

abbrev pub HasDefaults : Keyword → List Final → Type 0
HasDefaults display style = style_view style ≡ map (default_value display) properties

-- of an element of which nothing is declared, and of one of which `display: block` is
pub record AreDefaults (d : Defaults) : Type 0 where
  pub inline : HasDefaults Inline d.inline
  pub block : HasDefaults Block d.block
