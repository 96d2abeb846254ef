-- The styles of the elements of a document.
use Rattle.std.specs.Prelude.{ℕ, ℤ, pos, ◌≡◌, ◌*ℤ◌, List, [], codes, Option, Some, None, option_map, unwrap_or}
use Rattle.units64.specs.declared.constants.TheConstants.{UNITS_PER_PIXEL}
use Rattle.page_model.specs.declared.viewport.Viewport.{Viewport}
use Rattle.page_model.specs.Document.{Node, element, text, Nodes, no_nodes, node, value_at}
use Rattle.rules_model.specs.Sheets.{style_attr_of}
use Rattle.value_model.specs.declared.length_unit.Bases.{Bases}
use Rattle.cascade_model.specs.Answers.{answers_to}
use Rattle.cascade_model.specs.Applied.{Applied, applied_of, matched_rules}
use Rattle.cascade_model.specs.Books.{BookRule}
use Rattle.cascade_model.specs.Kept.{Kept, kept_declarations}
use Rattle.cascade_model.specs.Cascaded.{cascaded_of}
use Rattle.cascade_model.specs.Defaulting.{font_size_in}
use Rattle.cascade_model.specs.Styling.{Styling, styling_of}

-- the declarations of the `style` attribute of an element
abbrev pub inline_declarations : Node → ℕ → List Kept
inline_declarations root i =
    unwrap_or (option_map (λ text. kept_declarations (style_attr_of text)) (value_at (codes "style") i root)) []

-- the declarations that apply to an element on a viewport
abbrev pub applied_to : List BookRule → Viewport → Node → ℕ → List Applied
applied_to book v root i =
    applied_of (matched_rules root i book) (answers_to v (matched_rules root i book)) (inline_declarations root i)

-- the initial font size, in units
abbrev pub initial_font_size : ℤ
initial_font_size = UNITS_PER_PIXEL *ℤ pos 16

-- what lengths refer to; without containers their units are those of the viewport
abbrev pub bases_in : Viewport → (em rem : ℤ) → Bases
bases_in v em rem = record {
  em = em;
  rem = rem;
  vw = UNITS_PER_PIXEL *ℤ pos v.width;
  vh = UNITS_PER_PIXEL *ℤ pos v.height;
  cqw = UNITS_PER_PIXEL *ℤ pos v.width;
  cqh = UNITS_PER_PIXEL *ℤ pos v.height;
}

-- the rules, the viewport and the whole document
pub record Page : Type 0 where
  pub book : List BookRule
  pub viewport : Viewport
  pub root : Node

-- the styles of elements and their environments, by their ids
abbrev pub Styles : Type 0
Styles = ℕ → Option Styling

-- the style of an element below this parent, or of the root
abbrev pub element_style : Page → Option Styling → (em rem : ℤ) → ℕ → Styling
element_style page parent em rem i = styling_of (record {
  cascaded = cascaded_of (applied_to page.book page.viewport page.root i);
  parent = parent;
  bases = bases_in page.viewport em rem;
})

-- the style of an element whose parent has this style, where the root has this font size
abbrev pub child_style : Page → Styling → ℤ → ℕ → Styling
child_style page parent rem i = element_style page (Some parent) (font_size_in parent.style) rem i

-- the elements of a tree have the styles of the cascade, where the parent has this one and the root this
-- font size
abbrev mutual
  pub AreStyledBelow : Page → Styling → ℤ → Styles → Node → Type 0
  AreStyledBelow page parent rem styles (element i name attributes children) =
      (styles i ≡ Some (child_style page parent rem i))
      × AllStyledBelow page (child_style page parent rem i) rem styles children
  AreStyledBelow page parent rem styles (text i cs) = styles i ≡ None

  pub AllStyledBelow : Page → Styling → ℤ → Styles → Nodes → Type 0
  AllStyledBelow page parent rem styles no_nodes = Unit {0}
  AllStyledBelow page parent rem styles (node n ns) =
      AreStyledBelow page parent rem styles n × AllStyledBelow page parent rem styles ns

-- the style of the root
abbrev pub root_style : Page → ℕ → Styling
root_style page i = element_style page None initial_font_size initial_font_size i

-- the elements of a document have the styles of the cascade
abbrev pub AreStyled : Page → Styles → Node → Type 0
AreStyled page styles (element i name attributes children) =
    (styles i ≡ Some (root_style page i))
    × AllStyledBelow page (root_style page i) (font_size_in (root_style page i).style) styles children
AreStyled page styles (text i cs) = styles i ≡ None
