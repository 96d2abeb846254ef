-- Parts of lists of component values.
use Rattle.std.specs.Prelude.{◌≡◌, Bool, true, false}
use Rattle.css_model.specs.Components.{Component, Components, no_components, component}
use Rattle.css_model.specs.inner.Nesting.{followed}
use Rattle.rules_model.specs.ComponentLists.{is_whitespace, are_whitespace}

-- no component of the list passes
abbrev pub NonePass : (Component → Bool) → Components → Type 0
NonePass test no_components = Unit {0}
NonePass test (component c cs) = (test c ≡ false) × NonePass test cs

-- the list does not begin with white space
abbrev pub BeginsWithout : Components → Type 0
BeginsWithout no_components = Unit {0}
BeginsWithout (component c cs) = is_whitespace c ≡ false

-- the last of a component and others
abbrev pub last_of : Component → Components → Component
last_of c no_components = c
last_of c (component d ds) = last_of d ds

-- the list does not end with white space
abbrev pub EndsWithout : Components → Type 0
EndsWithout no_components = Unit {0}
EndsWithout (component c cs) = is_whitespace (last_of c cs) ≡ false

-- a list is this part of it, with white space before and after
pub record IsPadded (cs part : Components) : Type 0 where
  pub front : Components
  pub back : Components
  pub joined : cs ≡ followed front (followed part back)
  pub front_whitespace : are_whitespace front ≡ true
  pub back_whitespace : are_whitespace back ≡ true
  pub begins : BeginsWithout part
  pub ends : EndsWithout part
