-- Words of the examples: styles of elements in small documents with small sheets.
use Rattle.std.specs.Prelude.{ℕ, ◌==◌, pos, if◌then◌else◌, List, [], ◌∷◌, ◌++◌, map, codes, Some, None, is_some, false}
use Rattle.css_model.specs.Classes.{Text}
use Rattle.custom_model.specs.NamedValues.{NamedValues}
use Rattle.custom_model.specs.ValueText.{value_text}
use Rattle.page_model.specs.Document.{Node, element, text, no_nodes, node}
use Rattle.rules_model.specs.Sheets.{style_rules_of}
use Rattle.conditions_model.specs.MediaQueries.{MediaQuery, type_query}
use Rattle.conditions_model.specs.declared.media_type.MediaType.{MediaType}
use Rattle.value_model.specs.declared.prop.Prop.{Prop}
use Rattle.value_model.specs.declared.prop.Prop.TheVariants.{Width}
use Rattle.value_model.specs.Properties.{is_same_prop, pixels, properties, property}
use Rattle.value_model.specs.Calculations.{in_units, leaf as literal}
use Rattle.value_model.specs.Values.{Final, length as length_value}
use Rattle.cascade_model.specs.declared.origin.Origin.TheVariants.{UserAgent, Author}
use Rattle.cascade_model.specs.Books.{BookRule, author_rules, book_rules}
use Rattle.cascade_model.specs.Defaulting.{Style, font_size_in, style_of_border, value_in}
use Rattle.cascade_model.specs.Styling.{Styling}
use Rattle.cascade_model.specs.Cascaded.{cascaded_of}
use Rattle.cascade_model.specs.DocumentStyles.{AreStyled, applied_to, Page, Styles, child_style, root_style}

-- ---- documents

abbrev pub attribute : Text → Text → Text × Text
attribute name value = (name, value)

abbrev pub leaf : ℕ → Text → List (Text × Text) → Node
leaf i name attributes = element i name attributes no_nodes

-- an element with one child
abbrev pub parent : ℕ → Text → List (Text × Text) → Node → Node
parent i name attributes child = element i name attributes (node child no_nodes)

-- a page of a viewport of 800 by 600 pixels, with a sheet of the user agent and some of the author
abbrev pub page_with_sheets : Text → List Text → Node → Page
page_with_sheets user_agent authors root = record {
  book = book_rules UserAgent (style_rules_of user_agent) ++ author_rules (map style_rules_of authors);
  viewport = record { width = 800; height = 600 };
  root = root;
}

-- with one of the author
abbrev pub page_with : Text → Text → Node → Page
page_with user_agent author root = page_with_sheets user_agent (author ∷ []) root

-- with two
abbrev pub page_with_two : Text → Text → Text → Node → Page
page_with_two user_agent first second root = page_with_sheets user_agent (first ∷ second ∷ []) root

-- a property of the root, the id of which is 0
abbrev pub of_root : Page → Prop → Final
of_root page p = value_in (root_style page 0).style p

-- the style of the child of the root, the id of which is 1, and of its child, the id of which is 2
abbrev pub style_of_child : Page → Styling
style_of_child page = child_style page (root_style page 0) (font_size_in (root_style page 0).style) 1

abbrev pub style_of_grandchild : Page → Styling
style_of_grandchild page = child_style page (style_of_child page) (font_size_in (root_style page 0).style) 2

abbrev pub of_child : Page → Prop → Final
of_child page p = value_in (style_of_child page).style p

abbrev pub of_grandchild : Page → Prop → Final
of_grandchild page p = value_in (style_of_grandchild page).style p

-- a length in units
abbrev pub units : ℕ → Final
units n = length_value (literal (in_units (pos n)))

-- ---- media queries

-- the width of a `div` with this sheet of the author
abbrev pub width_by : Text → Final
width_by author = of_root (page_with [] author (leaf 0 (codes "div") [])) Width

-- the same on a viewport of 600 by 800 pixels
abbrev pub width_on_high : Text → Final
width_on_high author = value_in (root_style (record {
  book = author_rules (style_rules_of author ∷ []);
  viewport = record { width = 600; height = 800 };
  root = leaf 0 (codes "div") [];
}) 0).style Width

-- the media queries around each rule of a sheet
abbrev pub media_of_sheet : Text → List (List (List MediaQuery))
media_of_sheet sheet = map (λ (r : BookRule). r.media) (book_rules Author (style_rules_of sheet))

-- a list of one query, a media type alone
abbrev pub only_type : MediaType → List MediaQuery
only_type media_type = type_query false media_type None ∷ []

-- ---- whole styles

-- one of these values, or the initial one; a border without a style has no width
abbrev pub value_among : List (Prop × Final) → Prop → Final
value_among [] p = if is_some (style_of_border p) then pixels 0 else (property p).initial
value_among ((q, v) ∷ values) p = if is_same_prop q p then v else value_among values p

-- the style with these values, and else initial ones
abbrev pub initial_but : List (Prop × Final) → Style
initial_but values = map (value_among values) properties

-- three elements, one below another, with these `style` attributes, and a text in the last
abbrev pub family : (first second third : Text) → Node
family first second third =
    parent 0 (codes "div") (attribute (codes "style") first ∷ [])
    (parent 1 (codes "p") (attribute (codes "style") second ∷ [])
    (parent 2 (codes "q") (attribute (codes "style") third ∷ []) (text 3 (codes "x"))))

-- all elements of a page have the styles of the cascade
abbrev pub IsStyled : Page → Styles → Type 0
IsStyled page styles = AreStyled page styles page.root

-- a style of an element without custom properties
abbrev pub without_custom : Style → Styling
without_custom style = record { style = style; environment = [] }

-- styles of the ids 0, 1 and 2, which have no custom properties
abbrev pub three_styles : (first second third : Style) → Styles
three_styles first second third i =
    if i == 0 then Some (without_custom first)
    else if i == 1 then Some (without_custom second)
    else if i == 2 then Some (without_custom third)
    else None

-- ---- custom properties

-- the environment of the root and of its child, as texts
abbrev pub texts_of : NamedValues → List (Text × Text)
texts_of values = map (λ v. (v.0, value_text v.1)) values

abbrev pub environment_of_root : Page → List (Text × Text)
environment_of_root page = texts_of (root_style page 0).environment

abbrev pub environment_of_child : Page → List (Text × Text)
environment_of_child page = texts_of (style_of_child page).environment

-- the custom properties that the root declares, with the values that win
abbrev pub declared_by_root : Page → List (Text × Text)
declared_by_root page = texts_of (cascaded_of (applied_to page.book page.viewport page.root 0)).custom
