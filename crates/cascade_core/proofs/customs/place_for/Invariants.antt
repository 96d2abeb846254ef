-- The place is in the rest.
use Rattle.std.proofs.Common.{◌≡◌, ◌+◌, ◌≤◌, length, true}
use Rattle.std.specs.Str.{chars}
use Rattle.custom_model.specs.NamedValues.{are_in_order}
use Rattle.cascade_core.specs.inner.Customs.{less_count, names}
use Rattle.cascade_core.proofs.customs.place_for.Given as goal

abbrev pub invariant-loop-rest : goal.invariant-loop-rest
invariant-loop-rest l = record {
  order : are_in_order (names l.rest) ≡ true;
  within : l.start + length l.rest ≤ length l.entries;
  same : l.start + less_count (chars l.name) (names l.rest) ≡ less_count (chars l.name) (names l.entries);
}

abbrev pub decreases-loop-rest : goal.decreases-loop-rest
decreases-loop-rest l = length l.rest
