-- What an element gets: its custom properties first, and then its style by them (CSS Custom Properties 1,
-- section 3; CSS Cascade 4, section 4).
use Rattle.std.specs.Prelude.{[], Option, option_map}
use Rattle.std.specs.Option.{option_map_or}
use Rattle.custom_model.specs.Environments.{EnvironmentGiven}
use Rattle.custom_model.specs.NamedValues.{NamedValues, value_named}
use Rattle.custom_model.specs.inner.Finding.{environment_of}
use Rattle.value_model.specs.declared.length_unit.Bases.{Bases}
use Rattle.cascade_model.specs.Cascaded.{Cascaded}
use Rattle.cascade_model.specs.Defaulting.{Style}
use Rattle.cascade_model.specs.StyleEquation.{style_of}
use Rattle.cascade_model.specs.Substituting.{winners_of}

-- the computed values of the properties of an element, and its environment: those of its custom properties
pub record Styling : Type 0 where
  pub style : Style
  pub environment : NamedValues

-- what it is made of: the cascaded values, what the parent has, and what lengths refer to
pub record StylingGiven : Type 0 where
  pub cascaded : Cascaded
  pub parent : Option Styling
  pub bases : Bases

-- what the environment is made of; the root inherits none
abbrev pub environment_given : StylingGiven → EnvironmentGiven
environment_given g = record {
  declared = g.cascaded.custom;
  inherited = option_map_or (λ s. s.environment) g.parent [];
}

-- the environment: `IsEnvironment` says what it is, and there is just one
abbrev pub environment : StylingGiven → NamedValues
environment g = environment_of (environment_given g)

-- the style by an environment
abbrev pub style_in : NamedValues → StylingGiven → Style
style_in environment g = style_of (record {
  winners = winners_of (value_named environment) g.cascaded;
  parent = option_map (λ s. s.style) g.parent;
  bases = g.bases;
})

abbrev pub styling_of : StylingGiven → Styling
styling_of g = record { style = style_in (environment g) g; environment = environment g }
