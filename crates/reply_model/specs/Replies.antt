-- The reply to a line, and the replies to a script.
use Rattle.std.specs.Prelude.{◌≡◌, ℕ, zero, suc, List, [], ◌∷◌, ◌++◌, Bool, true, false, Option, Some, None, is_some}
use Rattle.stream_model.specs.Ledger.{Log}
use Rattle.stream_model.specs.Lists.{AreDistinct, IsAmong}
use Rattle.stream_model.specs.declared.kind.Kind.{Kind}
use Rattle.stream_model.specs.declared.kind.Kind.TheVariants.{Match as matching, Style as styling, Measure, Size, Place}
use Rattle.page_model.specs.Document.{name_at}
use Rattle.page_model.specs.Pages.{Page, State}
use Rattle.page_model.specs.Refusals.{Causes, first_of}
use Rattle.page_model.specs.declared.cause.Cause.{Cause}
use Rattle.request_model.specs.declared.query.Query.{Query}
use Rattle.request_model.specs.declared.query.Query.TheVariants.{Dump, Match, Rules, Style}
use Rattle.request_model.specs.declared.accepted.Accepted.{Accepted}
use Rattle.request_model.specs.Requests.{Edit, Request, edit, query, Asked, asked_of_line}
use Rattle.request_model.specs.States.{Answer, silent, refused, accepted, answer_to, accepted_by, brings_tree, state_after_edit, logs_of, logs_of_asked}
use Rattle.layout_model.specs.Setting.{Setting}
use Rattle.layout_model.specs.Consistent.{Assignment, Consistent}
use Rattle.reply_model.specs.Spelling.{ok_line, ok_nodes_line, error_line}
use Rattle.reply_model.specs.DumpText.{dump_text}
use Rattle.reply_model.specs.RulesText.{rules_text}
use Rattle.reply_model.specs.MatchText.{match_text}
use Rattle.reply_model.specs.StyleText.{AreStylesOf, style_text}
use Rattle.cascade_model.specs.DocumentStyles.{Styles}

-- where a script has come to: what is loaded, and what the last accepted edit logged
pub record Course : Type 0 where
  pub state : State
  pub last : Log

-- at the start nothing is loaded, and nothing was logged
abbrev pub start : Course
start = record { state = None; last = [] }

-- ---- logs

-- the kinds of work that styles take
abbrev pub is_for_styles : Kind → Bool
is_for_styles matching = true
is_for_styles styling = true
is_for_styles Measure = false
is_for_styles Size = false
is_for_styles Place = false

-- this id is an element's
abbrev pub is_element_of : State → ℕ → Bool
is_element_of None i = false
is_element_of (Some page) i = is_some (name_at i page.document.root)

-- such work on an element
abbrev pub IsStyleWork : State → Kind × ℕ → Type 0
IsStyleWork s work = (is_for_styles work.0 ≡ true) × (is_element_of s work.1 ≡ true)

-- each of some elements is matched and styled at most once, and nothing else is done
abbrev pub IsStyleLog : State → Log → Type 0
IsStyleLog s log = AreDistinct log × ((work : Kind × ℕ) → IsAmong work log → IsStyleWork s work)

-- what a request that is carried out may log, under the assignment that it reads, if it reads one: no work
-- of layout is counted yet
abbrev pub IsLogOf : Setting → Course → Request → Option Assignment → Log → Type 0
IsLogOf setting from (query (Style i)) a log = IsStyleLog from.state log
IsLogOf setting from q a log = log ≡ []

-- n logs with this property
abbrev pub AreLogs : ℕ → (Log → Type 0) → List Log → Type 0
AreLogs zero P own = own ≡ []
AreLogs (suc n) P own = (log : Log) × P log
    × ((others : List Log) × AreLogs n P others × (own ≡ log ∷ others))

-- the logs of a request that is carried out
abbrev pub AreLogsOf : Setting → Course → Request → Option Assignment → List Log → Type 0
AreLogsOf setting from q a own = AreLogs (logs_of q) (IsLogOf setting from q a) own

-- the logs of what is refused: nothing is logged
abbrev pub AreRefusedLogs : Asked → List Log → Type 0
AreRefusedLogs asked own = AreLogs (logs_of_asked asked) (λ log. log ≡ []) own

-- the newest of these logs, or the last one before them
abbrev pub newest : List Log → Log → Log
newest [] last = last
newest (log ∷ logs) last = newest logs log

-- ---- queries

-- why a dump is refused for what its assignment says: no form of an assignment is refused today
abbrev pub dump_causes : Page → Assignment → Causes
dump_causes page a = []

-- this text, unless there is a cause to refuse it
abbrev pub text_unless : Option Cause → List ℕ → List ℕ
text_unless None text = text
text_unless (Some c) text = error_line c

-- the reply to a query of a page, and what it logs; a dump is by the one consistent assignment, and a style
-- by the styles of the cascade
abbrev pub IsReplyOn : Page → Setting → Course → Query → List Log → List ℕ → Type 0
IsReplyOn page setting from Dump own reply =
    (a : Assignment) × Consistent setting page a × AreLogsOf setting from (query Dump) (Some a) own
    × (reply ≡ text_unless (first_of (dump_causes page a)) (dump_text page.document.root a ++ ok_line))
IsReplyOn page setting from Rules own reply =
    AreLogsOf setting from (query Rules) None own × (reply ≡ rules_text page.sheets ++ ok_line)
IsReplyOn page setting from (Match selector) own reply =
    AreLogsOf setting from (query (Match selector)) None own
    × (reply ≡ match_text selector page.document.root ++ ok_line)
IsReplyOn page setting from (Style i) own reply =
    (styles : Styles) × AreStylesOf page styles × AreLogsOf setting from (query (Style i)) None own
    × (reply ≡ style_text (styles i) ++ ok_line)

-- the reply to a query of what is loaded
abbrev pub IsQueryReply : State → Setting → Course → Query → List Log → List ℕ → Type 0
IsQueryReply None setting from q own reply = ⊥
IsQueryReply (Some page) setting from q own reply = IsReplyOn page setting from q own reply

-- ---- edits

-- the line of an edit: the first new id and the number of new nodes, if it brought a tree
abbrev pub edit_text : Bool → Accepted → List ℕ
edit_text true new = ok_nodes_line new.first new.count
edit_text false new = ok_line

-- the reply to an edit that leads from one place to another
abbrev pub IsEditText : Setting → Course → Edit → Course → List ℕ → Type 0
IsEditText setting from e to reply = reply ≡ edit_text (brings_tree e) (accepted_by from.state e)

-- an edit that is carried out: what it logs, its reply, and where it leads
pub record IsEditReply (setting : Setting) (from : Course) (e : Edit) (own : List Log)
    (reply : List ℕ) (to : Course) : Type 0 where
  pub logs : AreLogsOf setting from (edit e) None own
  pub text : IsEditText setting from e to reply
  pub state : to.state ≡ state_after_edit from.state e
  pub last : to.last ≡ newest own from.last

-- ---- one line

-- what a line asks for was answered so: what is logged, the reply, and where it leads
abbrev pub IsAnswered : Answer → Setting → Course → Asked → List Log → List ℕ → Course → Type 0
IsAnswered silent setting from asked own reply to = (own ≡ []) × (reply ≡ []) × (to ≡ from)
IsAnswered (refused c) setting from asked own reply to = AreRefusedLogs asked own
    × (reply ≡ error_line c) × (to ≡ from)
IsAnswered (accepted (edit e)) setting from asked own reply to = IsEditReply setting from e own reply to
IsAnswered (accepted (query q)) setting from asked own reply to =
    IsQueryReply from.state setting from q own reply × (to ≡ from)

-- one turn of a script: from one place to the next, by what a line asks for
unfoldable pub IsTurn : Setting → Course → Asked → List Log → List ℕ → Course → Type 0
IsTurn setting from asked own reply to =
    IsAnswered (answer_to from.state asked) setting from asked own reply to

-- ---- a script

-- the first line of a script: its logs, its reply, where it leads, and the logs and replies after it
pub record Step (setting : Setting) (from : Course) (line : List ℕ) (logs : List Log)
    (text : List ℕ) : Type 0 where
  pub own : List Log
  pub later : List Log
  pub reply : List ℕ
  pub others : List ℕ
  pub to : Course
  pub logs_are : logs ≡ own ++ later
  pub text_is : text ≡ reply ++ others
  pub turn : IsTurn setting from (asked_of_line line) own reply to

-- these are the replies to the lines, one after another, where they log these
unfoldable pub AreReplies : Setting → Course → List (List ℕ) → List Log → List ℕ → Type 0
AreReplies setting from [] logs text = (logs ≡ []) × (text ≡ [])
AreReplies setting from (line ∷ lines) logs text =
    (step : Step setting from line logs text) × AreReplies setting step.to lines step.later step.others

-- the replies to a whole script
abbrev pub Replies : Setting → List (List ℕ) → List Log → List ℕ → Type 0
Replies setting lines logs text = AreReplies setting start lines logs text
