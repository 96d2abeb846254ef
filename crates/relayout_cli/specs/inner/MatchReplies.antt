-- The reply to a match of a page.
use Rattle.std.specs.Prelude.{◌≡◌, ℕ, List, ◌++◌, Option, Some, None}
use Rattle.page_model.specs.Pages.{Page}
use Rattle.page_model.specs.Trees.{Text}
use Rattle.page_model.specs.declared.cause.Cause.TheVariants.{BadSelector}
use Rattle.selectors_model.specs.SelectorTexts.{selector_list_of_text}
use Rattle.selectors_model.specs.Selectors.{SelectorList}
use Rattle.reply_model.specs.MatchText.{match_lines}
use Rattle.reply_model.specs.Spelling.{ok_line, error_line}

-- the reply by the selector list that the text is, if it is one
abbrev pub IsMatchBy : Option SelectorList → Page → List ℕ → Type 0
IsMatchBy None page reply = reply ≡ error_line BadSelector
IsMatchBy (Some list) page reply = reply ≡ match_lines list page.document.root ++ ok_line

abbrev pub IsMatchReply : Text → Page → List ℕ → Type 0
IsMatchReply selector page reply = IsMatchBy (selector_list_of_text selector) page reply
