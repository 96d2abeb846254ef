-- What declarations give a value to.
use Rattle.std.proofs.Common.{◌≡◌, ap, refl, subst, true, false}
use Rattle.std.proofs.lemmas.Bool.{false≢true}
use Rattle.page_laws.proofs.AttributesInOrder.{same-text, text-same}
use Rattle.value_laws.proofs.Places.{same-is, is-same}
use Rattle.cascade_model.specs.Kept.{Target, of_property, of_custom, is_same_target}

pub same-target : (t u : Target) → is_same_target t u ≡ true → t ≡ u
same-target (of_property p) (of_property q) h = ap of_property (same-is p q h)
same-target (of_custom name) (of_custom other) h = ap of_custom (same-text name other h)
same-target (of_property p) (of_custom other) h = absurd (false≢true h)
same-target (of_custom name) (of_property q) h = absurd (false≢true h)

pub target-itself : (t : Target) → is_same_target t t ≡ true
target-itself (of_property p) = is-same p p refl
target-itself (of_custom name) = text-same name

pub target-same : (t u : Target) → t ≡ u → is_same_target t u ≡ true
target-same t u h = subst (λ x. is_same_target t x ≡ true) h (target-itself t)
