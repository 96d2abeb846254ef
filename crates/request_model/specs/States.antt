-- Which requests are refused, and the state that a line leaves.
use Rattle.std.specs.Prelude.{ℕ, ◌||◌, List, [], ◌∷◌, ◌++◌, Bool, true, false, length, take, drop, suc, not, nat_lt, Option, Some, None, is_none, is_some, option_map, unwrap_or, codes}
use Rattle.std.specs.List.{list_any}
use Rattle.page_model.specs.Trees.{Text, Tree, has_node, size}
use Rattle.page_model.specs.Document.{Document, Node, document, find, name_at, value_at}
use Rattle.page_model.specs.Refusals.{Causes, first_of}
use Rattle.page_model.specs.Edits.{load_causes, insert_causes, remove_causes, document_after_insert, document_after_remove}
use Rattle.page_model.specs.Pages.{Page, State}
use Rattle.page_model.specs.declared.limits.TheConstants.{MAX_SIDE}
use Rattle.page_model.specs.declared.cause.Cause.{Cause}
use Rattle.page_model.specs.declared.cause.Cause.TheVariants.{NotLoaded, NoNode, NotElement, ViewportRange, SheetLimit, NoSheet, BadSelector, NotBuilt}
use Rattle.rules_model.specs.Sheets.{limit_of_sheet, style_rules_of}
use Rattle.rules_model.specs.declared.limits.TheConstants.{MAX_SHEETS}
use Rattle.selectors_model.specs.Elements.{is_same_name}
use Rattle.selectors_model.specs.Matching.{elements_of}
use Rattle.selectors_model.specs.SelectorTexts.{selector_list_of_text}
use Rattle.request_model.specs.declared.query.Query.{Query}
use Rattle.request_model.specs.declared.query.Query.TheVariants.{Dump, Match, Rules, Style}
use Rattle.request_model.specs.declared.accepted.Accepted.{Accepted}
use Rattle.request_model.specs.Requests.{Edit, load, insert, remove, sheet, Request, edit, query, Asked, nothing, broken, request}
use Rattle.request_model.specs.UnbuiltStyles.{has_unbuilt_styles}

-- ---- refusals

abbrev pub is_empty : {X : Type 0} → List X → Bool
is_empty [] = true
is_empty (x ∷ xs) = false

-- a text is in the tree
abbrev pub has_text : Tree → Bool
has_text t = has_node (λ _ _. false) (λ _. true) t

-- the forms of a request in the grammar that are not built yet; they are refused before what is loaded is looked at
abbrev pub form_causes : Request → Causes
form_causes (edit (load width height doc sheets)) = (has_text doc, NotBuilt) ∷ []
form_causes (edit (insert parent index new)) = (has_text new, NotBuilt) ∷ []
form_causes (edit (remove id)) = []
form_causes (edit (sheet at css)) = []
form_causes (query q) = []

-- the causes to refuse what needs a page
abbrev pub needs_page : State → (Page → Causes) → Causes
needs_page None causes = (true, NotLoaded) ∷ []
needs_page (Some page) causes = causes page

-- a text is above a limit of style sheets
abbrev pub is_over_sheet_limit : Text → Bool
is_over_sheet_limit css = is_some (limit_of_sheet css)

-- there are too many sheets, or one is above a limit
abbrev pub are_over_sheet_limits : List Text → Bool
are_over_sheet_limits sheets = nat_lt MAX_SHEETS (length sheets) || list_any is_over_sheet_limit sheets

-- why no sheet is put at this place, or none is taken out from there
abbrev pub sheet_causes : ℕ → Option Text → List Text → Causes
sheet_causes at (Some css) sheets =
    (nat_lt (length sheets) at, NoSheet) ∷ (not (nat_lt at MAX_SHEETS) || is_over_sheet_limit css, SheetLimit) ∷ []
sheet_causes at None sheets = (not (nat_lt at (length sheets)), NoSheet) ∷ []

-- why an edit is refused, in the order in which this is asked
abbrev pub edit_causes : State → Edit → Causes
edit_causes s (load width height doc sheets) =
    (nat_lt MAX_SIDE width || nat_lt MAX_SIDE height, ViewportRange)
    ∷ (are_over_sheet_limits (unwrap_or sheets []), SheetLimit) ∷ load_causes doc
edit_causes s (insert parent index new) = needs_page s (λ page. insert_causes parent index new page.document)
edit_causes s (remove id) = needs_page s (λ page. remove_causes id page.document)
edit_causes s (sheet at css) = needs_page s (λ page. sheet_causes at css page.sheets)

abbrev pub has_style_rule : Text → Bool
has_style_rule css = not (is_empty (style_rules_of css))

-- the box of an element may be another than that of a plain block: it is not a `div`, or has a `style` attribute
abbrev pub is_styled : Node → ℕ → Bool
is_styled root i =
    not (is_same_name (name_at i root) (Some (codes "div"))) || is_some (value_at (codes "style") i root)

-- the same of a page: a sheet has a style rule, or one of its elements is such
abbrev pub is_styled_page : Page → Bool
is_styled_page page =
    list_any has_style_rule page.sheets
    || list_any (is_styled page.document.root) (elements_of page.document.root)

-- why the style of a node is refused: it is not there, or a text, or styles of the page are not built yet
abbrev pub style_causes : ℕ → Page → Causes
style_causes i page =
    (is_none (find i page.document.root), NoNode)
    ∷ (is_none (name_at i page.document.root), NotElement)
    ∷ (has_unbuilt_styles page, NotBuilt)
    ∷ []

-- why a query is refused, whatever its assignment is
abbrev pub query_causes : State → Query → Causes
query_causes s Dump = needs_page s (λ page. (is_styled_page page, NotBuilt) ∷ [])
query_causes s Rules = needs_page s (λ _. [])
query_causes s (Match selector) =
    needs_page s (λ _. (is_none (selector_list_of_text selector), BadSelector) ∷ [])
query_causes s (Style i) = needs_page s (style_causes i)

abbrev pub request_causes : State → Request → Causes
request_causes s (edit e) = edit_causes s e
request_causes s (query q) = query_causes s q

-- why a request is refused, if it is
unfoldable pub refusal_of : State → Request → Option Cause
refusal_of s q = first_of (form_causes q ++ request_causes s q)

-- ---- edits

-- the same sheets and viewport, with another document
abbrev pub with_document : (Document → Document) → Page → Page
with_document change page =
    record { document = change page.document; sheets = page.sheets; viewport = page.viewport }

-- the same document and viewport, with other sheets
abbrev pub with_sheets : (List Text → List Text) → Page → Page
with_sheets change page =
    record { document = page.document; sheets = change page.sheets; viewport = page.viewport }

-- the sheets in which this text is at the place: instead of the one that is there, or behind all
abbrev pub sheets_with : ℕ → Text → List Text → List Text
sheets_with at css sheets = take at sheets ++ css ∷ drop (suc at) sheets

-- the sheets without the one at the place; later ones move down
abbrev pub sheets_without : ℕ → List Text → List Text
sheets_without at sheets = take at sheets ++ drop (suc at) sheets

abbrev pub sheets_after : ℕ → Option Text → List Text → List Text
sheets_after at (Some css) sheets = sheets_with at css sheets
sheets_after at None sheets = sheets_without at sheets

-- what is loaded after an edit that is not refused
abbrev pub state_after_edit : State → Edit → State
state_after_edit s (load width height doc sheets) =
    Some (record {
      document = document doc;
      sheets = unwrap_or sheets [];
      viewport = record { width = width; height = height };
    })
state_after_edit s (insert parent index new) =
    option_map (with_document (document_after_insert parent index new)) s
state_after_edit s (remove id) = option_map (with_document (document_after_remove id)) s
state_after_edit s (sheet at css) = option_map (with_sheets (sheets_after at css)) s

-- the id that the next new node gets
abbrev pub next_id : State → ℕ
next_id None = 0
next_id (Some page) = page.document.next_id

-- an edit brings a tree, whose nodes get ids
abbrev pub brings_tree : Edit → Bool
brings_tree (load width height doc sheets) = true
brings_tree (insert parent index new) = true
brings_tree (remove id) = false
brings_tree (sheet at css) = false

-- the first new id and the number of new nodes of an edit that is not refused
abbrev pub accepted_by : State → Edit → Accepted
accepted_by s (load width height doc sheets) = record { first = 0; count = size doc }
accepted_by s (insert parent index new) = record { first = next_id s; count = size new }
accepted_by s (remove id) = record { first = 0; count = 0 }
accepted_by s (sheet at css) = record { first = 0; count = 0 }

-- ---- lines

-- how a line is answered
pub data Answer : Type 0 where
  silent : Answer
  refused : Cause → Answer
  accepted : Request → Answer

abbrev pub answer_by : Request → Option Cause → Answer
answer_by q None = accepted q
answer_by q (Some c) = refused c

-- the answer to what a line asks for
abbrev pub answer_to : State → Asked → Answer
answer_to s nothing = silent
answer_to s (broken c) = refused c
answer_to s (request q) = answer_by q (refusal_of s q)

-- ---- logs

-- the number of logs that a request begins, whether it is carried out or refused: an edit begins one, and
-- what computes styles or boxes
abbrev pub logs_of : Request → ℕ
logs_of (edit e) = 1
logs_of (query Dump) = 1
logs_of (query Rules) = 0
logs_of (query (Match selector)) = 0
logs_of (query (Style i)) = 1

-- the number of logs that is begun by what a line asks for
abbrev pub logs_of_asked : Asked → ℕ
logs_of_asked nothing = 0
logs_of_asked (broken c) = 0
logs_of_asked (request q) = logs_of q
