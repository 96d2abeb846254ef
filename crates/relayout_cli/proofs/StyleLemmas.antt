-- The style of an element of a page, and why it is refused.
use Rattle.std.proofs.Common.{◌≡◌, ◌∙◌, ap, sym, subst, refl, ℕ, List, [], ◌∷◌, ◌++◌, Bool, true, false, Option, Some, None, map, option_map, is_none, append-nil, codes, encode_utf8_all, unwrap_or, Result, Ok, Err, OnOk, OnErr, IfOk}
use Rattle.std.proofs.lemmas.Str.{chars_from_encodes}
use Rattle.std.specs.List.{list_any}
use Rattle.std.specs.Option.{option_map_or}
use Rattle.std.specs.Prelude.{IsSome}
use Rattle.std.specs.Str.{IsUtf8, chars}
use Rattle.cascade_core.specs.Books.{book_view}
use Rattle.cascade_core.specs.declared.rule_book.RuleBook.{RuleBook}
use Rattle.cascade_laws.proofs.TreeStyles.{some-styled}
use Rattle.cascade_model.specs.Books.{book_of}
use Rattle.cascade_model.specs.DocumentStyles.{Page as StyledPage}
use Rattle.cascade_model.specs.Styling.{Styling}
use Rattle.css_rules.specs.declared.sheet.Sheet.{Sheet}
use Rattle.page_model.specs.Document.{AreDistinct, Node, find, ids, name_at, value_at}
use Rattle.page_model.specs.Pages.{Page}
use Rattle.page_model.specs.Trees.{Text}
use Rattle.page_model.specs.Refusals.{first_of}
use Rattle.page_model.specs.declared.cause.Cause.{Cause}
use Rattle.page_model.specs.declared.cause.Cause.TheVariants.{NoNode, NotBuilt, NotElement}
use Rattle.page_model.specs.declared.viewport.Viewport.{Viewport}
use Rattle.page_styles.proofs.IsPathAbove.{style-along}
use Rattle.page_styles.specs.Paths.{style_below}
use Rattle.page_styles.specs.Styles.{IsStyleAt, LogsStyling, page_of}
use Rattle.reply_model.specs.Spelling.{error_line, ok_line}
use Rattle.reply_model.specs.StyleText.{AreStylesOf, style_text, styling_lines}
use Rattle.request_model.specs.States.{style_causes}
use Rattle.request_model.specs.UnbuiltStyles.{has_unbuilt, has_unbuilt_attribute, has_unbuilt_rule, has_unbuilt_styles}
use Rattle.rules_model.specs.Rules.{StyleRule}
use Rattle.rules_model.specs.Sheets.{style_attr_of, style_rules_of}
use Rattle.selectors_model.specs.Matching.{elements_of}
use Rattle.stream_model.specs.Ledger.{Event}
use Rattle.relayout_cli.specs.Pages.{page_view}
use Rattle.relayout_cli.specs.Sheets.{AreParsed, kept_rules, text_rules, texts_of}
use Rattle.relayout_cli.specs.declared.page.Page.{Page as KeptPage}
use Rattle.relayout_cli.specs.inner.StyleReplies.{AnswersStyle, AnswersStyleBy, IsStyleOf, node_causes}

-- ---- causes

front-cause : (a b c : Bool) (o : Cause) → first_of ((a, NoNode) ∷ (b, NotElement) ∷ []) ≡ Some o
    → first_of ((a, NoNode) ∷ (b, NotElement) ∷ (c, NotBuilt) ∷ []) ≡ Some o
front-cause true b c o h = h
front-cause false true c o h = h
front-cause false false c o h = absurd (cc)

last-cause : (a b c : Bool) → first_of ((a, NoNode) ∷ (b, NotElement) ∷ []) ≡ None
    → first_of ((a, NoNode) ∷ (b, NotElement) ∷ (c, NotBuilt) ∷ []) ≡ first_of ((c, NotBuilt) ∷ [])
last-cause true b c h = absurd (cc)
last-cause false true c h = absurd (cc)
last-cause false false c h = refl

-- an id past all that were given is of no node
pub no-node : (i : ℕ) (root : Node) → find i root ≡ None → first_of (node_causes i root) ≡ Some NoNode
no-node i root none = ap (λ (o : Option Node). first_of ((is_none o, NoNode) ∷ (is_none (name_at i root), NotElement) ∷ [])) none

-- a reply of a cause of the node
pub OnOk-cause : {T E : Type 0} (r : Result T E) (i : ℕ) (page : Page) (c : Cause) (old new : List ℕ) (es : List Event)
    → first_of (node_causes i page.document.root) ≡ Some c → OnOk r (new ≡ old ++ error_line c) → old ≡ [] → OnOk r (AnswersStyle i page new es es)
OnOk-cause (Ok x) i page c old new es is line empty =
    subst (λ o. AnswersStyleBy o i page new es es) (sym (front-cause _ _ (has_unbuilt_styles page) c is))
    (line ∙ ap (λ (front : List ℕ). front ++ error_line c) empty, refl)
OnOk-cause (Err x) i page c old new es is line empty = tt

built-by : (i : ℕ) (page : Page) (b : Bool) → first_of (node_causes i page.document.root) ≡ None → has_unbuilt_styles page ≡ b
    → first_of (style_causes i page) ≡ first_of ((b, NotBuilt) ∷ [])
built-by i page b none is = last-cause _ _ (has_unbuilt_styles page) none ∙ ap (λ c. first_of ((c, NotBuilt) ∷ [])) is

-- the reply where styles are not built
pub OnOk-unbuilt : {T E : Type 0} (r : Result T E) (i : ℕ) (page : Page) (b : Bool) (old new : List ℕ) (es : List Event)
    → first_of (node_causes i page.document.root) ≡ None → b ≡ has_unbuilt_styles page → b ≡ true
    → OnOk r (new ≡ old ++ error_line NotBuilt) → old ≡ [] → OnOk r (AnswersStyle i page new es es)
OnOk-unbuilt (Ok x) i page b old new es none is holds line empty =
    subst (λ o. AnswersStyleBy o i page new es es) (sym (built-by i page true none (sym is ∙ holds)))
    (line ∙ ap (λ (front : List ℕ). front ++ error_line NotBuilt) empty, refl)
OnOk-unbuilt (Err x) i page b old new es none is holds line empty = tt

-- the reply of a style
pub OnOk-built : {T E : Type 0} (r : Result T E) (i : ℕ) (page : Page) (b : Bool) (new : List ℕ) (es es' : List Event)
    → first_of (node_causes i page.document.root) ≡ None → b ≡ has_unbuilt_styles page → b ≡ false
    → OnOk r (IsStyleOf i page new) → LogsStyling page.document.root es es' → OnOk r (AnswersStyle i page new es es')
OnOk-built (Ok x) i page b new es es' none is fails style logged =
    subst (λ o. AnswersStyleBy o i page new es es') (sym (built-by i page false none (sym is ∙ fails))) (style, logged)
OnOk-built (Err x) i page b new es es' none is fails style logged = tt

pub OnErr-logged : {T E : Type 0} (r : Result T E) (root : Node) (es es' : List Event) → LogsStyling root es es' → OnErr r (LogsStyling root es es')
OnErr-logged (Ok x) root es es' h = tt
OnErr-logged (Err x) root es es' h = h

-- ---- styles that are not built

pub unbuilt-by-rules : (page : Page) → list_any has_unbuilt_rule page.sheets ≡ true → true ≡ has_unbuilt_styles page
unbuilt-by-rules page is = rw is refl

pub unbuilt-by-attributes : (page : Page) (b : Bool) → list_any has_unbuilt_rule page.sheets ≡ false
    → b ≡ list_any (has_unbuilt_attribute page.document.root) (elements_of page.document.root) → b ≡ has_unbuilt_styles page
unbuilt-by-attributes page b is e = rw is e

pub IfOk-unbuilt : {E : Type 0} (r : Result Bool E) (page : Page) (given : List ℕ) → list_any has_unbuilt_rule page.sheets ≡ false
    → given ≡ elements_of page.document.root → IfOk r (λ b. b ≡ list_any (has_unbuilt_attribute page.document.root) given)
    → IfOk r (λ b. b ≡ has_unbuilt_styles page)
IfOk-unbuilt (Ok b) page given is e h = unbuilt-by-attributes page b is (h ∙ ap (list_any (has_unbuilt_attribute page.document.root)) e)
IfOk-unbuilt (Err x) page given is e h = tt

-- ---- an attribute

style-chars : chars (codes "style") ≡ codes "style"
unfolding chars
style-chars = refl

-- whether the value of an attribute has what is not built
abbrev unbuilt_value : Option Text → Bool
unbuilt_value value = option_map_or (λ text. has_unbuilt (style_attr_of text)) value false

unbuilt-read : (value : Option Text) (bytes : List ℕ) → IsUtf8 bytes → Some bytes ≡ option_map encode_utf8_all value
    → has_unbuilt (style_attr_of (chars bytes)) ≡ unbuilt_value value
unbuilt-read None bytes utf8 read = absurd (cc)
unbuilt-read (Some cs) bytes utf8 read =
    let same : bytes ≡ encode_utf8_all cs = ap (λ (o : Option (List ℕ)). unwrap_or o []) read in
    ap (λ text. has_unbuilt (style_attr_of text)) (sym (chars_from_encodes cs bytes utf8 (sym same)))

nothing-read : (value : Option Text) → None ≡ option_map encode_utf8_all value → false ≡ unbuilt_value value
nothing-read None read = refl
nothing-read (Some cs) read = absurd (cc)

pub IfOk-some : {E : Type 0} (r : Result Bool E) (root : Node) (i : ℕ) (bytes : List ℕ) → IsUtf8 bytes
    → Some bytes ≡ option_map encode_utf8_all (value_at (chars (codes "style")) i root)
    → IfOk r (λ b. b ≡ has_unbuilt (style_attr_of (chars bytes))) → IfOk r (λ b. b ≡ has_unbuilt_attribute root i)
IfOk-some (Ok b) root i bytes utf8 read h =
    h ∙ (unbuilt-read (value_at (chars (codes "style")) i root) bytes utf8 read
    ∙ ap (λ name. unbuilt_value (value_at name i root)) style-chars)
IfOk-some (Err x) root i bytes utf8 read h = tt

pub attribute-none : (root : Node) (i : ℕ) → None ≡ option_map encode_utf8_all (value_at (chars (codes "style")) i root)
    → false ≡ has_unbuilt_attribute root i
attribute-none root i read =
    nothing-read (value_at (chars (codes "style")) i root) read ∙ ap (λ name. unbuilt_value (value_at name i root)) style-chars

-- ---- the text of a style

-- what styles are made from, with these rules
abbrev page_with : Viewport → Node → List (List StyleRule) → StyledPage
page_with viewport root rules = record { book = book_of rules; viewport = viewport; root = root }

-- the rules of the texts of sheets
abbrev map-texts : List Sheet → List (List StyleRule)
map-texts sheets = map style_rules_of (texts_of sheets)

rules-texts : (sheets : List Sheet) → text_rules sheets ≡ map-texts sheets
rules-texts [] = refl
rules-texts (s ∷ sheets) = ap (λ rules. style_rules_of s.text ∷ rules) (rules-texts sheets)

-- the lines by the kept rules are those by the rules of the texts
lines-parsed : (sheets : List Sheet) (viewport : Viewport) (root : Node) (i : ℕ) (above : List ℕ) → AreParsed sheets
    → styling_lines (style_below (page_with viewport root (kept_rules sheets)) i above)
    ≡ styling_lines (style_below (page_with viewport root (map-texts sheets)) i above)
lines-parsed sheets viewport root i above parsed =
    parsed (λ rules. styling_lines (style_below (page_with viewport root rules) i above))
    ∙ ap (λ rules. styling_lines (style_below (page_with viewport root rules) i above)) (rules-texts sheets)

-- the styles of a page, and the lines of one of them
pub record StyledText (page : Page) (i : ℕ) (style : Styling) : Type 0 where
  pub styles : ℕ → Option Styling
  pub are : AreStylesOf page styles
  pub text : styling_lines style ≡ style_text (styles i)

pub styled-text : (page : KeptPage) (book : RuleBook) (i : ℕ) (style : Styling) → book_view book ≡ book_of (kept_rules page.sheets)
    → IsStyleAt (page_of book page.viewport page.document.document.root) i style → AreDistinct (ids page.document.document.root)
    → IsSome (name_at i page.document.document.root) → StyledText (page_view page) i style
styled-text page book i style read at d named =
    let root : Node = page.document.document.root in
    let texts : StyledPage = page_with page.viewport root (map-texts page.sheets) in
    let s = some-styled texts root d in
    let own : s.0 i ≡ Some (style_below texts i at.0) = style-along texts s.0 d s.1 i at.0 at.1 named in
    record {
      styles = s.0;
      are = s.1;
      text = ap styling_lines (at.2 ∙ ap (λ rules. style_below (record { book = rules; viewport = page.viewport; root = root }) i at.0) read)
          ∙ (lines-parsed page.sheets page.viewport root i at.0 page.parsed ∙ ap style_text (sym own));
    }

-- the lines and `ok` were appended to nothing
pub OnOk-style : {T E : Type 0} (r : Result T E) (page : Page) (i : ℕ) (style : Styling) (old mid new : List ℕ) → StyledText page i style
    → old ≡ [] → mid ≡ old ++ styling_lines style → OnOk r (new ≡ mid ++ ok_line) → OnOk r (IsStyleOf i page new)
OnOk-style (Ok x) page i style old mid new t empty lines line = (
  t.styles,
  t.are,
  line ∙ ap (λ (front : List ℕ). front ++ ok_line) (lines ∙ (ap (λ (front : List ℕ). front ++ styling_lines style) empty ∙ t.text)),
)
OnOk-style (Err x) page i style old mid new t empty lines line = tt

pub nothing-styled : (root : Node) (es : List Event) → LogsStyling root es es
nothing-styled root es = ([], (tt, λ work h. absurd h), sym (append-nil es))
