-- The style of an element and its environment.
use Rattle.cascade_model.specs.Styling.{Styling}
use Rattle.custom_props.specs.EnvView.{env_view}
use Rattle.prop_table.specs.Styles.{style_view}
use Rattle.cascade_core.specs.declared.styled.Styled.{Styled}

abbrev pub styled_view : {L : Type 0} → Styled L → Styling
styled_view s = record { style = style_view s.style; environment = env_view s.env.value }
