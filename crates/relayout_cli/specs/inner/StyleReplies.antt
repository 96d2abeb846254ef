-- The reply to a style of a page.
use Rattle.std.specs.Prelude.{◌≡◌, ℕ, List, [], ◌∷◌, ◌++◌, is_none, Option, Some, None}
use Rattle.stream_model.specs.Ledger.{Event}
use Rattle.page_model.specs.Document.{Node, find, name_at}
use Rattle.page_model.specs.Pages.{Page}
use Rattle.page_model.specs.Refusals.{Causes, first_of}
use Rattle.page_model.specs.declared.cause.Cause.{Cause}
use Rattle.page_model.specs.declared.cause.Cause.TheVariants.{NoNode, NotElement}
use Rattle.cascade_model.specs.DocumentStyles.{Styles}
use Rattle.page_styles.specs.Styles.{LogsStyling}
use Rattle.request_model.specs.States.{style_causes}
use Rattle.reply_model.specs.Spelling.{error_line, ok_line}
use Rattle.reply_model.specs.StyleText.{AreStylesOf, style_text}

-- why a node has no style
abbrev pub node_causes : ℕ → Node → Causes
node_causes i root = (is_none (find i root), NoNode) ∷ (is_none (name_at i root), NotElement) ∷ []

-- the style of a node, by the styles of the page
abbrev pub IsStyleOf : ℕ → Page → List ℕ → Type 0
IsStyleOf i page reply =
    (styles : Styles) × AreStylesOf page styles × (reply ≡ style_text (styles i) ++ ok_line)

-- the reply and what is logged, by the first cause to refuse it
abbrev pub AnswersStyleBy : Option Cause → ℕ → Page → List ℕ → List Event → List Event → Type 0
AnswersStyleBy None i page reply old new = IsStyleOf i page reply × LogsStyling page.document.root old new
AnswersStyleBy (Some c) i page reply old new = (reply ≡ error_line c) × (new ≡ old)

abbrev pub AnswersStyle : ℕ → Page → List ℕ → List Event → List Event → Type 0
AnswersStyle i page reply old new = AnswersStyleBy (first_of (style_causes i page)) i page reply old new
