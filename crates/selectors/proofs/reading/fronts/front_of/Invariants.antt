-- What is in front of what is left is in front of all.
use Rattle.std.proofs.Common.{◌≡◌, drop}
use Rattle.selectors_model.specs.TokenTypes.{without_front_whitespace, without_whitespace}
use Rattle.selectors.specs.inner.Fronts.{types}
use Rattle.selectors.proofs.reading.fronts.front_of.Given as goal

abbrev pub invariant-loop-place : goal.invariant-loop-place
invariant-loop-place l = record {
  front : without_front_whitespace (types (drop l.place l.components)) ≡ without_front_whitespace (types l.components);
  solid : without_whitespace (types (drop l.place l.components)) ≡ without_whitespace (types l.components);
}
