-- The environment of an element: its custom properties with their computed values (CSS Custom
-- Properties 1, sections 2 and 3.1; CSS Cascade 4, section 7.3).
use Rattle.std.specs.Prelude.{◌≡◌, Option, Some, None, true}
use Rattle.std.specs.Option.{option_map_or}
use Rattle.css_model.specs.Classes.{Text}
use Rattle.css_model.specs.Components.{Components}
use Rattle.value_model.specs.declared.wide_keyword.WideKeyword.{WideKeyword}
use Rattle.value_model.specs.declared.wide_keyword.WideKeyword.TheVariants.{Initial}
use Rattle.value_model.specs.Grammar.{wide_keyword_of}
use Rattle.value_model.specs.Words.{words_of}
use Rattle.custom_model.specs.Cycles.{IsOnCycle}
use Rattle.custom_model.specs.NamedValues.{NamedValues, value_named, names_of, are_in_order}
use Rattle.custom_model.specs.Substitution.{Entries, substituted}

-- what an environment is made of: the names that the element declares, each with the value that wins,
-- and the environment of the parent, which is empty for the root
pub record EnvironmentGiven : Type 0 where
  pub declared : NamedValues
  pub inherited : NamedValues

-- ---- one entry; `parent` is the entry of the parent

-- what a CSS-wide keyword stands for: a custom property is inherited, and the user agent declares none
abbrev pub entry_of_keyword : Option Components → WideKeyword → Option Components
entry_of_keyword parent Initial = None
entry_of_keyword parent w = parent

-- the entry of a value after substitution: a CSS-wide keyword, between white space, is one also then
abbrev pub entry_of_value : Option Components → Components → Option Components
entry_of_value parent value =
    option_map_or (entry_of_keyword parent) (wide_keyword_of (words_of value)) (Some value)

-- a value that is invalid at computed-value time is as `inherit`
abbrev pub entry_of_substituted : Option Components → Option Components → Option Components
entry_of_substituted parent None = parent
entry_of_substituted parent (Some value) = entry_of_value parent value

-- the entry of a declared value, where the entries of other names are these
abbrev pub entry_of_declared : Entries → Option Components → Components → Option Components
entry_of_declared entries parent value = entry_of_substituted parent (substituted entries value)

-- ---- all entries

-- what is asked of a name: without a value, or on a cycle, it has the entry of the parent; else its value
-- after substitution by the same environment
pub record IsEntry (g : EnvironmentGiven) (environment : NamedValues) (name : Text) : Type 0 where
  pub not_declared : value_named g.declared name ≡ None
      → value_named environment name ≡ value_named g.inherited name
  pub on_cycle : IsOnCycle g.declared name
      → value_named environment name ≡ value_named g.inherited name
  pub declared : (value : Components) → value_named g.declared name ≡ Some value
      → (IsOnCycle g.declared name → ⊥)
      → value_named environment name
      ≡ entry_of_declared (value_named environment) (value_named g.inherited name) value

-- the environment: the right entry for each name, in order of name
pub record IsEnvironment (g : EnvironmentGiven) (environment : NamedValues) : Type 0 where
  pub in_order : are_in_order (names_of environment) ≡ true
  pub entries : (name : Text) → IsEntry g environment name
