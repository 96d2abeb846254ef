-- Which declarations of the definitions apply.
use Rattle.std.specs.Prelude.{List, map}
use Rattle.cascade_model.specs.Applied as model
use Rattle.cascade_model.specs.Kept.{Kept, Target}
use Rattle.cascade_core.specs.Views.{kept_value_view}
use Rattle.cascade_core.specs.declared.applied.Applied.{Applied}
use Rattle.cascade_core.specs.declared.applied.Place.{Place}

-- a declaration of this property
abbrev pub applied_view : Target → Applied → model.Applied
applied_view t a = record {
  origin = a.origin;
  important = a.important;
  in_attribute = a.in_attribute;
  specificity = a.specificity;
  target = t;
  value = kept_value_view a.value.value;
}

-- a declaration that stands in a place
abbrev pub placed : Place → Kept → model.Applied
placed at k = record {
  origin = at.origin;
  important = k.important;
  in_attribute = at.in_attribute;
  specificity = at.specificity;
  target = k.target;
  value = k.value;
}

abbrev pub all_placed : Place → List Kept → List model.Applied
all_placed at ks = map (placed at) ks
