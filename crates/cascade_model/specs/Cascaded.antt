-- The cascaded values of an element: those of the declarations that win, before `var()` are replaced
-- (CSS Cascade 4, sections 4.2 and 6).
use Rattle.std.specs.Prelude.{List, filter, filter_map, Option, Some, None, option_map, option_and_then, Bool, true, false}
use Rattle.css_model.specs.Classes.{Text}
use Rattle.css_model.specs.Components.{Components}
use Rattle.custom_model.specs.NamedValues.{NamedValues}
use Rattle.custom_model.specs.inner.Finding.{entries_of, ordered_names}
use Rattle.value_model.specs.declared.prop.Prop.{Prop}
use Rattle.cascade_model.specs.declared.origin.Origin.{Origin}
use Rattle.cascade_model.specs.declared.origin.Origin.TheVariants.{UserAgent, Author}
use Rattle.cascade_model.specs.Applied.{Applied}
use Rattle.cascade_model.specs.Kept.{Target, of_property, of_custom, KeptValue, read, whole}
use Rattle.cascade_model.specs.Order.{winner}

-- for each property the value that wins, and the one that wins among those of the user agent; and the
-- custom properties that are declared, each with the value that wins, in order of name
pub record Cascaded : Type 0 where
  pub of_all : Prop → Option KeptValue
  pub of_user_agent : Prop → Option KeptValue
  pub custom : NamedValues

-- ---- properties

abbrev pub is_of_user_agent : Origin → Bool
is_of_user_agent UserAgent = true
is_of_user_agent Author = false

-- the declarations of the user agent alone
abbrev pub without_author : List Applied → List Applied
without_author ds = filter (λ d. is_of_user_agent d.origin) ds

-- the value that wins
abbrev pub value_that_wins : List Applied → Target → Option KeptValue
value_that_wins ds t = option_map (λ d. d.value) (winner t ds)

-- ---- custom properties

abbrev pub custom_name : Target → Option Text
custom_name (of_custom name) = Some name
custom_name (of_property p) = None

-- the names of custom properties that are declared
abbrev pub custom_names : List Applied → List Text
custom_names ds = filter_map (λ d. custom_name d.target) ds

-- the component values of a custom property, which are kept whole
abbrev pub components_of_value : KeptValue → Option Components
components_of_value (whole name value) = Some value
components_of_value (read v) = None

abbrev pub custom_value : List Applied → Text → Option Components
custom_value ds name = option_and_then components_of_value (value_that_wins ds (of_custom name))

-- ---- all of them

abbrev pub cascaded_of : List Applied → Cascaded
cascaded_of ds = record {
  of_all = λ p. value_that_wins ds (of_property p);
  of_user_agent = λ p. value_that_wins (without_author ds) (of_property p);
  custom = entries_of (custom_value ds) (ordered_names (custom_names ds));
}
