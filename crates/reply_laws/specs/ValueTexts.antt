-- What the texts of computed values and of styles tell.
use Rattle.std.specs.Prelude.{◌≡◌, List, length as count, map, true, ⊤}
use Rattle.css_model.specs.Classes.{Text}
use Rattle.cascade_model.specs.Defaulting.{Style, value_in}
use Rattle.cascade_model.specs.Styling.{Styling}
use Rattle.custom_model.specs.NamedValues.{NamedValues}
use Rattle.custom_model.specs.ValueText.{value_text}
use Rattle.reply_model.specs.StyleText.{styling_lines}
use Rattle.reply_model.specs.ValueTexts.{final_text}
use Rattle.value_model.specs.declared.prop.Prop.{Prop}
use Rattle.value_model.specs.Properties.{properties, property}
use Rattle.value_model.specs.Values.{Final, number, integer, length}
use Rattle.value_laws.specs.ComputedForms.{is_computed}
use Rattle.calculations_laws.specs.LengthTexts.{IsShort, HasShortLeaves}

-- the numbers that `is_computed` does not bound are short; those that are read of CSS are at most
-- `MAX_MILLIONTHS`, which has 16 digits
abbrev pub HasShortNumbers : Final → Type 0
HasShortNumbers (length l) = HasShortLeaves l
HasShortNumbers (number n) = IsShort n
HasShortNumbers (integer n) = IsShort n
HasShortNumbers v = ⊤

-- two computed values of one property that have the same text are the same
abbrev pub TellsValuesApart : Prop → Type 0
TellsValuesApart p = (a b : Final) → is_computed p a ≡ true → is_computed p b ≡ true
    → HasShortNumbers a → HasShortNumbers b → final_text a ≡ final_text b → a ≡ b

-- a computed value for each property, in their order
pub record IsComputedStyle (s : Style) : Type 0 where
  pub complete : count s ≡ count properties
  pub computed : (p : Prop) → is_computed p (value_in s p) ≡ true
  pub short : (p : Prop) → HasShortNumbers (value_in s p)

-- the style of initial values
abbrev pub initial_style : Style
initial_style = map (λ p. (property p).initial) properties

-- the names of custom properties, each with the text of its value
abbrev pub named_texts : NamedValues → List (Text × Text)
named_texts environment = map (λ v. (v.0, value_text v.1)) environment

-- what has the same lines has the same style, and the same custom properties with the same texts
abbrev pub TellsStylesApart : Type 0
TellsStylesApart = (s t : Styling) → IsComputedStyle s.style → IsComputedStyle t.style
    → styling_lines s ≡ styling_lines t
    → (s.style ≡ t.style) × (named_texts s.environment ≡ named_texts t.environment)
