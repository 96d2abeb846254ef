-- The text of the reply to `style`.
use Rattle.std.specs.Prelude.{ℕ, List, [], ◌++◌, codes, flat_map, Option, Some, None}
use Rattle.css_model.specs.Classes.{Text}
use Rattle.css_model.specs.Components.{Components}
use Rattle.page_model.specs.Pages as pages
use Rattle.cascade_model.specs.Books.{book_of_texts}
use Rattle.cascade_model.specs.Defaulting.{Style, value_in}
use Rattle.cascade_model.specs.DocumentStyles.{AreStyled, Page, Styles}
use Rattle.cascade_model.specs.Styling.{Styling}
use Rattle.custom_model.specs.NamedValues.{NamedValues}
use Rattle.custom_model.specs.ValueText.{value_text}
use Rattle.reply_model.specs.Spelling.{end_line, field, quoted}
use Rattle.reply_model.specs.ValueTexts.{final_text}
use Rattle.value_model.specs.declared.prop.Prop.{Prop}
use Rattle.value_model.specs.Properties.{properties, property}
use Rattle.value_model.specs.Values.{Final}

-- ---- styles of a page

-- what styles are made from: the rules of the user agent and of the sheets, the viewport, the document
abbrev pub styled_page : pages.Page → Page
styled_page page = record {
  book = book_of_texts page.sheets;
  viewport = page.viewport;
  root = page.document.root;
}

-- these are the styles of the elements of a page
abbrev pub AreStylesOf : pages.Page → Styles → Type 0
AreStylesOf page styles = AreStyled (styled_page page) styles page.document.root

-- ---- their text

-- the line of a property: its name and its computed value
unfoldable pub value_line : Prop → Final → List ℕ
value_line p v = (property p).name ++ (codes ": " ++ (final_text v ++ end_line))

-- the lines of all properties, in their order
unfoldable pub style_lines : Style → List ℕ
style_lines style = flat_map (λ p. value_line p (value_in style p)) properties

-- the line of a custom property: its name and its value, both as quoted strings
unfoldable pub custom_line : Text → Components → List ℕ
custom_line name value = codes "custom" ++ (field (quoted name) ++ (field (quoted (value_text value)) ++ end_line))

-- the lines of an environment, which is in order of name
unfoldable pub custom_lines : NamedValues → List ℕ
custom_lines environment = flat_map (λ e. custom_line e.0 e.1) environment

-- the lines of what an element gets: its properties, and then its custom properties
abbrev pub styling_lines : Styling → List ℕ
styling_lines s = style_lines s.style ++ custom_lines s.environment

-- the lines of an element; what gets no style has none
abbrev pub style_text : Option Styling → List ℕ
style_text None = []
style_text (Some s) = styling_lines s
