-- The components of the definition that components are.
use Rattle.std.specs.Prelude.{List, [], ◌∷◌, map}
use Rattle.css_model.specs.Components as model
use Rattle.css_tokens.specs.declared.component.Component.{Component, fold-Component}
use Rattle.css_tokens.specs.declared.component.Component.TheOpen.{Component-F}

-- components of the definition, as it lists them
abbrev pub listed : List model.Component → model.Components
listed [] = model.no_components
listed (c ∷ cs) = model.component c (listed cs)

-- one level, with each component in it already seen as one of the definition
abbrev pub nested_step : Component-F model.Component → model.Component
nested_step (Component-F.One t) = model.preserved t
nested_step (Component-F.Block head contents close) = model.simple_block head (listed contents) close
nested_step (Component-F.Function head contents close) = model.function_block head (listed contents) close

abbrev pub component_view : Component → model.Component
component_view = fold-Component model.Component nested_step

abbrev pub components_view : List Component → model.Components
components_view cs = listed (map component_view cs)
