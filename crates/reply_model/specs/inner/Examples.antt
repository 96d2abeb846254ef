-- Words and documents of the examples.
use Rattle.std.specs.Prelude.{ℕ, ℤ, pos, List, [], ◌∷◌, ◌++◌, codes, flat_map}
use Rattle.std.specs.Fmt.{decimal, signed_decimal}
use Rattle.page_model.specs.Document.{Node, element, text, no_nodes, node}
use Rattle.page_model.specs.Pages.{Page}
use Rattle.page_model.specs.Trees.{Text}
use Rattle.cascade_model.specs.DocumentStyles.{root_style}
use Rattle.cascade_model.specs.inner.Examples.{attribute, leaf, page_with}
use Rattle.custom_model.specs.NamedValues.{NamedValues}
use Rattle.custom_model.specs.inner.Examples.{values_of}
use Rattle.reply_model.specs.StyleText.{custom_line}

-- a rule line of its numbers and its prelude in quotes
abbrev pub line : ℕ → ℕ → ℕ → ℕ → List ℕ → List ℕ
line sheet place conditions declarations prelude =
    codes "rule " ++ (decimal sheet ++ (codes " " ++ (decimal place ++ (codes " " ++ (decimal conditions
    ++ (codes " " ++ (decimal declarations ++ (codes " " ++ (prelude ++ codes "\n")))))))))

-- `div` with `p` of two classes, `p` and `q`
abbrev pub paragraphs : Node
paragraphs = element 0 (codes "div") []
    (node (element 1 (codes "p") ((codes "class", codes "a b") ∷ []) no_nodes)
    (node (element 2 (codes "p") [] no_nodes)
    (node (element 3 (codes "q") [] no_nodes) no_nodes)))

-- ids in another order than elements, and a text
abbrev pub other_order : Node
other_order = element 7 (codes "x") []
    (node (element 5 (codes "b") [] no_nodes)
    (node (element 3 (codes "a") [] (node (text 2 (codes "t")) (node (element 4 (codes "b") [] no_nodes) no_nodes)))
    no_nodes))

-- a line of a name and a number
abbrev pub with_number : List ℕ → ℤ → List ℕ
with_number name n = name ++ (codes ": " ++ (signed_decimal n ++ codes "\n"))

-- the lines of the initial values; a border is of medium width where it has a style
abbrev pub initial_lines : List ℕ
initial_lines =
    codes "display: inline\nwidth: auto\nheight: auto\n"
    ++ (with_number (codes "min-width") (pos 0) ++ (with_number (codes "min-height") (pos 0)
    ++ (codes "max-width: none\nmax-height: none\n"
    ++ (with_number (codes "margin-top") (pos 0) ++ (with_number (codes "margin-right") (pos 0)
    ++ (with_number (codes "margin-bottom") (pos 0) ++ (with_number (codes "margin-left") (pos 0)
    ++ (with_number (codes "padding-top") (pos 0) ++ (with_number (codes "padding-right") (pos 0)
    ++ (with_number (codes "padding-bottom") (pos 0) ++ (with_number (codes "padding-left") (pos 0)
    ++ (with_number (codes "border-top-width") (pos 192) ++ (with_number (codes "border-right-width") (pos 192)
    ++ (with_number (codes "border-bottom-width") (pos 192)
    ++ (with_number (codes "border-left-width") (pos 192)
    ++ (codes "border-top-style: none\nborder-right-style: none\n"
    ++ (codes "border-bottom-style: none\nborder-left-style: none\n"
    ++ (codes "border-top-color: currentcolor\nborder-right-color: currentcolor\n"
    ++ (codes "border-bottom-color: currentcolor\nborder-left-color: currentcolor\n"
    ++ (codes "box-sizing: content-box\n"
    ++ (with_number (codes "font-size") (pos 1024)
    ++ (codes "line-height: normal\ncolor: #000000ff\nbackground-color: #00000000\n"
    ++ (codes "text-align: left\nwhite-space: normal\noverflow: visible\ncontain: none\n"
    ++ (codes "container-type: normal\ncontainer-name: none\nvisibility: visible\n"
    ++ (with_number (codes "opacity") (pos 1000000)
    ++ (codes "font-style: normal\n"
    ++ (with_number (codes "font-weight") (pos 400)
    ++ codes "z-index: auto\ntext-decoration-line: none\npointer-events: auto\n")))))))))))))))))))))))))))

-- a `div` with these sheets
abbrev pub page_of_sheets : List Text → Page
page_of_sheets sheets = record {
  document = record { root = element 0 (codes "div") [] no_nodes; next_id = 1 };
  sheets = sheets;
  viewport = record { width = 800; height = 600 };
}

-- ---- custom properties

-- the lines of the declarations of a text
abbrev pub custom_line_of : Text → List ℕ
custom_line_of css = flat_map (λ v. custom_line v.0 v.1) (values_of css)

-- the environment of an element with this `style` attribute, by the cascade
abbrev pub environment_of_style : Text → NamedValues
environment_of_style css =
    (root_style (page_with [] [] (leaf 0 (codes "div") (attribute (codes "style") css ∷ []))) 0).environment
