-- Component values without white space, as a list.
use Rattle.std.proofs.Common.{◌≡◌, ap, refl, inl, inr}
use Rattle.std.proofs.lemmas.Bool.{cases_Bool}
use Rattle.css_model.specs.Components.{Components, no_components, component}
use Rattle.css_tokens.specs.Nested.{listed}
use Rattle.rules_model.specs.ComponentLists.{is_whitespace}
use Rattle.conditions_model.specs.SizeFeatures.{without_whitespace}
use Rattle.value_model.specs.Words.{words_of}

pub without-listed : (cs : Components) → without_whitespace cs ≡ listed (words_of cs)
without-listed no_components = refl
without-listed (component c cs) = elim (cases_Bool (is_whitespace c)) [
  | inl t ↦ rw t (without-listed cs)
  | inr f ↦ rw f (ap (component c) (without-listed cs))
]
