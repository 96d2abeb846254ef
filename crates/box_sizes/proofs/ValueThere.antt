-- The value that a style has of a property.
use Rattle.std.proofs.Common.{◌≡◌, ◌∙◌, ap, sym, List, Some}
use Rattle.std.specs.Prelude.{option_map}
use Rattle.std.specs.List.{slice_get}
use Rattle.std.proofs.lemmas.Option.{get_or_from_slice_get, slice_get-map}
use Rattle.value_model.specs.declared.prop.Prop.{Prop}
use Rattle.value_model.specs.Properties.{property, prop_place}
use Rattle.prop_table.specs.Styles.{style_view}
use Rattle.prop_table.specs.Views.{final_view}
use Rattle.prop_table.specs.declared.final_value.Final.{Final}
use Rattle.box_sizes.specs.StyleValues.{values_of}

pub value_there : (style : List Final) (p : Prop) (v : Final) → slice_get style (prop_place p) ≡ Some v
    → final_view v ≡ values_of style p
value_there style p v there =
    sym (get_or_from_slice_get (style_view style) (prop_place p) (final_view v) (property p).initial
    (slice_get-map final_view style (prop_place p) ∙ ap (option_map final_view) there))
