-- The text of the reply to `match`.
use Rattle.std.specs.Prelude.{ℕ, List, [], ◌++◌, codes, flat_map, Option, Some, None}
use Rattle.std.specs.Fmt.{decimal}
use Rattle.page_model.specs.Document.{Node}
use Rattle.page_model.specs.Trees.{Text}
use Rattle.selectors_model.specs.Matching.{matched}
use Rattle.selectors_model.specs.SelectorTexts.{selector_list_of_text}
use Rattle.selectors_model.specs.Selectors.{SelectorList}
use Rattle.reply_model.specs.Spelling.{end_line, field}

-- the line of an element that matches: its id
unfoldable pub match_line : ℕ → List ℕ
match_line id = codes "match" ++ (field (decimal id) ++ end_line)

-- the lines of the elements of a tree that a selector list matches, in document order
abbrev pub match_lines : SelectorList → Node → List ℕ
match_lines list root = flat_map match_line (matched list root)

-- the lines for a text; one that is no selector list has none
abbrev pub match_text_by : Option SelectorList → Node → List ℕ
match_text_by None root = []
match_text_by (Some list) root = match_lines list root

abbrev pub match_text : Text → Node → List ℕ
match_text selector root = match_text_by (selector_list_of_text selector) root
