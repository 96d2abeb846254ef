use Rattle.std.proofs.Common.{◌≡◌, ◌+◌, ◌≤◌, length, true}
use Rattle.std.specs.Str.{chars}
use Rattle.custom_model.specs.NamedValues.{are_in_order, names_of}
use Rattle.custom_props.specs.Views.{values_view}
use Rattle.custom_props.specs.inner.Places.{place_of}
use Rattle.custom_props.proofs.PlacesInOrder.{behind}
use Rattle.custom_props.proofs.places.place_of.Given as goal

-- the name is in the rest, if it is there
abbrev pub invariant-loop-rest : goal.invariant-loop-rest
invariant-loop-rest l = record {
  order : are_in_order (names_of (values_view l.rest)) ≡ true;
  within : l.start + length l.rest ≤ length l.values;
  same : behind l.start (place_of (chars l.name) (names_of (values_view l.rest)))
      ≡ place_of (chars l.name) (names_of (values_view l.values));
}

abbrev pub decreases-loop-rest : goal.decreases-loop-rest
decreases-loop-rest l = length l.rest
