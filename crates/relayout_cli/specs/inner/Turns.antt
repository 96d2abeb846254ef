-- What answering one line does.
use Rattle.std.specs.Prelude.{◌≡◌, ◌≤◌, ℕ, zero, suc, length, List, [], ◌∷◌, ◌++◌, Option}
use Rattle.stream_model.specs.Streams.{SinkState, CountsFault, Appends, AppendsPart}
use Rattle.stream_model.specs.Ledger.{Event, Log, events, pairs}
use Rattle.stream_model.specs.Lists.{AreDistinct}
use Rattle.request_model.specs.Requests.{Asked}
use Rattle.request_model.specs.States.{logs_of_asked}
use Rattle.layout_model.specs.Setting.{Setting}
use Rattle.reply_model.specs.Replies.{Course, IsTurn}
use Rattle.relayout_cli.specs.Pages.{IsAt}
use Rattle.relayout_cli.specs.Runs.{AllOnce}
use Rattle.relayout_cli.specs.declared.page.Page.{Page}
use Rattle.relayout_cli.specs.declared.serving.Turn.{Turn}
use Rattle.relayout_cli.specs.declared.serving.Turn.TheVariants as turn

-- the logs of a line while nothing is counted
abbrev pub empty_logs : ℕ → List Log
empty_logs zero = []
empty_logs (suc n) = [] ∷ empty_logs n

-- the logs of a line that begins so many, where this work is counted in the first
abbrev pub logs_with : Log → ℕ → List Log
logs_with work zero = []
logs_with work (suc n) = work ∷ empty_logs n

-- from each place that what was kept stands for, the turn with these logs and this reply leads to one that what is kept stands for
abbrev pub IsResponse : Asked → List Log → List ℕ → Option Page → Option Page → Type 0
IsResponse asked own reply old new =
    (setting : Setting) (from : Course) → IsAt old from
    → (to : Course) × IsTurn setting from asked own reply to × IsAt new to

-- what a turn changes of the outside
pub record Outcome : Type 0 where
  pub sink : SinkState
  pub ledger : List Event

-- a turn was taken with these logs and this reply
pub record Responds (asked : Asked) (page page' : Option Page) (old new : Outcome) : Type 0 where
  pub own : List Log
  pub reply : List ℕ
  pub response : IsResponse asked own reply page page'
  pub once : AllOnce own
  pub logged : new.ledger ≡ old.ledger ++ events own

-- what carrying out a line logs after the marks: this work, each pair at most once, and none where no log is
-- begun
pub record Works (asked : Asked) (work : Log) (old new : List Event) : Type 0 where
  pub once : AreDistinct work
  pub within : logs_of_asked asked ≡ 0 → work ≡ []
  pub logged : new ≡ old ++ pairs work

-- a line was carried out with this reply, after the marks of its logs
pub record CarriesOut (asked : Asked) (reply : List ℕ) (page page' : Option Page) (old new : List Event) : Type 0 where
  pub work : Log
  pub response : IsResponse asked (logs_with work (logs_of_asked asked)) reply page page'
  pub works : Works asked work old new

-- a line was begun, after the marks of its logs
abbrev pub SetsOut : Asked → List Event → List Event → Type 0
SetsOut asked old new = (work : Log) × Works asked work old new

-- a line was answered with this reply
pub record Answers (asked : Asked) (reply : List ℕ) (page page' : Option Page) (old new : List Event) : Type 0 where
  pub own : List Log
  pub response : IsResponse asked own reply page page'
  pub once : AllOnce own
  pub logged : new ≡ old ++ events own

-- a line has begun some logs
pub record BeginsLogs (asked : Asked) (old new : List Event) : Type 0 where
  pub begun : List Log
  pub few : length begun ≤ logs_of_asked asked
  pub once : AllOnce begun
  pub logged : new ≡ old ++ events begun

-- what answering a line does, by how the turn ended
abbrev pub Turns : Turn → Asked → Option Page → Option Page → Outcome → Outcome → Type 0
Turns turn.Answered asked page page' old new =
    (r : Responds asked page page' old new) × Appends old.sink.held new.sink.held r.reply
    × (new.sink.faults ≡ old.sink.faults)
Turns turn.Failed asked page page' old new =
    (r : Responds asked page page' old new) × AppendsPart old.sink.held new.sink.held r.reply
    × CountsFault old.sink.faults new.sink.faults
Turns turn.NoMemory asked page page' old new = BeginsLogs asked old.ledger new.ledger × (new.sink ≡ old.sink)

-- what writing a reply does to the sink
abbrev pub Tells : Turn → List ℕ → SinkState → SinkState → Type 0
Tells turn.Answered reply old new = Appends old.held new.held reply × (new.faults ≡ old.faults)
Tells turn.Failed reply old new = AppendsPart old.held new.held reply × CountsFault old.faults new.faults
Tells turn.NoMemory reply old new = ⊥
