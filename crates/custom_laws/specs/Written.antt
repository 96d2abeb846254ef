-- How the contents of a `var()` are written (CSS Custom Properties 1, section 3).
use Rattle.std.specs.Prelude.{◌≡◌, Option, Some, None, true}
use Rattle.css_model.specs.Components.{Component, Components, no_components, component}
use Rattle.css_model.specs.inner.Nesting.{followed}
use Rattle.rules_model.specs.ComponentLists.{are_whitespace}
use Rattle.custom_model.specs.References.{Reference, custom_name_of, is_comma, is_declaration_value}

-- what is after the name: nothing, or a comma and the fallback
abbrev pub IsFallback : Option Components → Components → Type 0
IsFallback None rest = rest ≡ no_components
IsFallback (Some fallback) rest =
    (comma : Component) × (is_comma comma ≡ true) × (is_declaration_value fallback ≡ true)
    × (rest ≡ component comma fallback)

-- the contents are white space, a name, white space, and what is after it
pub record IsReference (contents : Components) (r : Reference) : Type 0 where
  pub front : Components
  pub word : Component
  pub behind : Components
  pub rest : Components
  pub front_white : are_whitespace front ≡ true
  pub named : custom_name_of word ≡ Some r.name
  pub behind_white : are_whitespace behind ≡ true
  pub fallback : IsFallback r.fallback rest
  pub joined : contents ≡ followed front (component word (followed behind rest))
