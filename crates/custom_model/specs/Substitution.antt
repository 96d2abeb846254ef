-- Values with `var()` replaced (CSS Custom Properties 1, sections 3, 3.1 and 3.3).
use Rattle.std.specs.Prelude.{ℕ, nat_le, ◌&&◌, if◌then◌else◌, length, Option, Some, None, option_map, option_and_then, Bool}
use Rattle.std.specs.Option.{option_or}
use Rattle.css_model.specs.declared.token.TheConstants.{MAX_NESTING}
use Rattle.css_model.specs.Classes.{Text}
use Rattle.css_model.specs.Components.{Component, preserved, simple_block, function_block, Components, no_components, component, all_tokens_of, depths}
use Rattle.css_model.specs.inner.Nesting.{followed}
use Rattle.custom_model.specs.declared.limits.TheConstants.{MAX_SUBSTITUTED_TOKENS}
use Rattle.custom_model.specs.References.{has_var, is_comma, is_var_type, reference_in}

-- what stands for each name, if anything does
abbrev pub Entries : Type 0
Entries = Text → Option Components

-- what stands for the name of a reference
abbrev pub entry_of_reference : Entries → Components → Option Components
entry_of_reference entries contents = option_and_then (λ r. entries r.name) (reference_in contents)

-- one component value by itself
abbrev pub one_component : Component → Components
one_component c = component c no_components

-- both in a row, if there are both
abbrev pub both_followed : Option Components → Option Components → Option Components
both_followed (Some cs) (Some ds) = Some (followed cs ds)
both_followed cs ds = None

-- what stands in place of component values: a `var()` is replaced by the entry of its name, or else by
-- its fallback, where its own are replaced; with neither there is nothing
abbrev mutual
  pub replacement_of : Entries → Component → Option Components
  replacement_of entries (preserved t) = Some (one_component (preserved t))
  replacement_of entries (simple_block head contents close) =
      option_map (λ cs. one_component (simple_block head cs close)) (replacement_of_all entries contents)
  replacement_of entries (function_block head contents close) =
      if is_var_type head.token_type
      then option_or (entry_of_reference entries contents) (replacement_of_fallback entries contents)
      else option_map (λ cs. one_component (function_block head cs close)) (replacement_of_all entries contents)

  pub replacement_of_all : Entries → Components → Option Components
  replacement_of_all entries no_components = Some no_components
  replacement_of_all entries (component c cs) =
      both_followed (replacement_of entries c) (replacement_of_all entries cs)

  -- the fallback is what is after the first `,`
  pub replacement_of_fallback : Entries → Components → Option Components
  replacement_of_fallback entries no_components = None
  replacement_of_fallback entries (component c cs) =
      if is_comma c then replacement_of_all entries cs else replacement_of_fallback entries cs

-- the limits of a value with `var()`: each token counts, also white space and closing brackets
abbrev pub is_within : (tokens levels : ℕ) → Components → Bool
is_within tokens levels cs = nat_le (length (all_tokens_of cs)) tokens && nat_le (depths cs) levels

abbrev pub if_within : (tokens levels : ℕ) → Components → Option Components
if_within tokens levels cs = if is_within tokens levels cs then Some cs else None

-- a value after substitution, with these limits; one without `var()` has none
abbrev pub substituted_within : (tokens levels : ℕ) → Entries → Components → Option Components
substituted_within tokens levels entries value =
    if has_var value
    then option_and_then (if_within tokens levels) (replacement_of_all entries value)
    else Some value

-- a value after substitution; with none it is invalid at computed-value time
abbrev pub substituted : Entries → Components → Option Components
substituted entries value = substituted_within MAX_SUBSTITUTED_TOKENS MAX_NESTING entries value
