-- Pages of the examples.
use Rattle.std.specs.Prelude.{List, [], ◌∷◌, codes}
use Rattle.page_model.specs.Document.{element, no_nodes, node, text}
use Rattle.page_model.specs.Pages.{Page}
use Rattle.page_model.specs.Trees.{Text}

-- `div` with `p` and a text, and these sheets
abbrev pub page_with_sheets : List Text → Page
page_with_sheets sheets = record {
  document = record {
    root = element 0 (codes "div") []
        (node (element 1 (codes "p") [] no_nodes) (node (text 2 (codes "x")) no_nodes));
    next_id = 3;
  };
  sheets = sheets;
  viewport = record { width = 1; height = 1 };
}

-- the same with one sheet
abbrev pub page_with : Text → Page
page_with css = page_with_sheets (css ∷ [])

-- `div` with the first attributes and in it `p` with the second
abbrev pub page_with_attributes : List (Text × Text) → List (Text × Text) → Page
page_with_attributes of_root of_child = record {
  document = record {
    root = element 0 (codes "div") of_root (node (element 1 (codes "p") of_child no_nodes) no_nodes);
    next_id = 2;
  };
  sheets = [];
  viewport = record { width = 1; height = 1 };
}

-- `p` has this `style` attribute
abbrev pub page_with_attribute : Text → Page
page_with_attribute style = page_with_attributes [] ((codes "style", style) ∷ [])
