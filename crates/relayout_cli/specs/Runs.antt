-- What serving a script answers and leaves.
use Rattle.std.specs.Prelude.{◌≡◌, ◌≢◌, ◌⊎◌, ◌^◌, ◌+◌, ◌<◌, ◌≤◌, ℕ, length, Some, None, List, [], ◌∷◌, ◌++◌, take, Option}
use Rattle.stream_model.specs.Streams.{SourceState, SinkState, FromTo, last_count, CountsFault, Grew, TakesCount}
use Rattle.stream_model.specs.Lines.{lines, whole_lines}
use Rattle.stream_model.specs.Ledger.{Event, Log, events}
use Rattle.stream_model.specs.Lists.{AreDistinct}
use Rattle.stream_model.specs.declared.limits.TheConstants.{MAX_TAKEN}
use Rattle.request_model.specs.Requests.{asked_of_line}
use Rattle.request_model.specs.States.{logs_of_asked}
use Rattle.layout_model.specs.Setting.{Setting, default_advances}
use Rattle.reply_model.specs.Replies.{Replies}
use Rattle.relayout_cli.specs.declared.status.Status.{Status}
use Rattle.relayout_cli.specs.declared.status.Status.TheVariants.{Done, BadWords, ReadFault, WriteFault, NoMemory, InputSpent}

-- characters as wide as the default says, under this profile
abbrev pub setting_of : ℕ → Setting
setting_of profile = record { advances = default_advances; profile = profile }

-- what is seen of the outside at a moment
pub record Outside : Type 0 where
  pub source : SourceState
  pub sink : SinkState
  pub ledger : List Event

-- a run: what is seen of the outside before it and after it
pub record Run : Type 0 where
  pub before : Outside
  pub after : Outside

-- ---- what is answered

-- what was appended to the sink is the replies to these lines, and the ledger has their logs
pub record AnswersLines (setting : Setting) (run : Run) (lines : List (List ℕ))
    (old new : List ℕ) : Type 0 where
  pub logs : List Log
  pub text : List ℕ
  pub replies : Replies setting lines logs text
  pub appended : new ≡ old ++ text
  pub logged : run.after.ledger ≡ run.before.ledger ++ events logs

-- all lines of the bytes that were left were answered, in their order, and no byte is left
abbrev pub Served : Setting → Run → Type 0
Served setting run =
    FromTo run.before.source.left run.after.source.left (λ all rest.
    (rest ≡ []) × FromTo run.before.sink.held run.after.sink.held (AnswersLines setting run (lines all)))

-- the lines that ended with a newline in the bytes taken were answered, in their order
abbrev pub ServedWhole : Setting → Run → Type 0
ServedWhole setting run =
    FromTo run.before.source.left run.after.source.left (λ all rest.
    FromTo run.before.sink.held run.after.sink.held (λ old new.
    (taken : List ℕ) × (all ≡ taken ++ rest) × AnswersLines setting run (whole_lines taken) old new))

-- a run whose source failed, or whose input is spent, answered every whole line that it took
abbrev pub BreaksOff : Setting → Status → Run → Type 0
BreaksOff setting Done run = Unit {0}
BreaksOff setting BadWords run = Unit {0}
BreaksOff setting ReadFault run = ServedWhole setting run
BreaksOff setting WriteFault run = Unit {0}
BreaksOff setting NoMemory run = Unit {0}
BreaksOff setting InputSpent run = ServedWhole setting run

-- the sink failed at the reply to the last of these lines: the replies to those before it are whole, and a prefix of that one stands after them
pub record IsCutShort (setting : Setting) (first : List (List ℕ)) (text bytes : List ℕ) : Type 0 where
  pub answered : List (List ℕ)
  pub last : List ℕ
  pub logs : List Log
  pub before : List ℕ
  pub reply : List ℕ
  pub part : ℕ
  pub lines_are : first ≡ answered ++ last ∷ []
  pub replies : Replies setting answered logs before
  pub text_is : text ≡ before ++ reply
  pub within : part ≤ length reply
  pub written : bytes ≡ before ++ take part reply

-- what was written of the text of the replies to these lines, by how a run ended: all of it, unless the sink failed
abbrev pub IsWritten : Setting → Status → List (List ℕ) → List ℕ → List ℕ → Type 0
IsWritten setting Done first text bytes = bytes ≡ text
IsWritten setting BadWords first text bytes = ⊥
IsWritten setting ReadFault first text bytes = bytes ≡ text
IsWritten setting WriteFault first text bytes = IsCutShort setting first text bytes
IsWritten setting NoMemory first text bytes = bytes ≡ text
IsWritten setting InputSpent first text bytes = bytes ≡ text

-- the most logs that the first of these lines begins
abbrev pub most_of_first : List (List ℕ) → ℕ
most_of_first [] = 0
most_of_first (line ∷ others) = logs_of_asked (asked_of_line line)

-- the logs that the first of these lines has begun, where memory ran out at it: the last of them may be cut short
abbrev pub HasBegun : List (List ℕ) → List Log → Type 0
HasBegun others begun = length begun ≤ most_of_first others

-- the logs beside those of the lines that were answered, by how a run ended
abbrev pub HasBegunBy : Status → List (List ℕ) → List Log → Type 0
HasBegunBy Done others begun = begun ≡ []
HasBegunBy BadWords others begun = ⊥
HasBegunBy ReadFault others begun = begun ≡ []
HasBegunBy WriteFault others begun = begun ≡ []
HasBegunBy NoMemory others begun = HasBegun others begun
HasBegunBy InputSpent others begun = begun ≡ []

-- some first lines of all were answered, which are among those of the bytes taken: this was written of the replies to them, and the ledger has their logs
pub record BeginsReplies (setting : Setting) (status : Status) (run : Run)
    (all rest old new : List ℕ) : Type 0 where
  pub first : List (List ℕ)
  pub others : List (List ℕ)
  pub taken : List ℕ
  pub later : List (List ℕ)
  pub logs : List Log
  pub begun : List Log
  pub text : List ℕ
  pub written : List ℕ
  pub cut : lines all ≡ first ++ others
  pub parted : all ≡ taken ++ rest
  pub within : lines taken ≡ first ++ later
  pub replies : Replies setting first logs text
  pub appended : new ≡ old ++ written
  pub part : IsWritten setting status first text written
  pub has_begun : HasBegunBy status others begun
  pub logged : run.after.ledger ≡ run.before.ledger ++ events (logs ++ begun)

-- however a run over a script ends, what it wrote begins the replies to it
abbrev pub Wrote : Setting → Status → Run → Type 0
Wrote setting status run =
    FromTo run.before.source.left run.after.source.left (λ all rest.
    FromTo run.before.sink.held run.after.sink.held (BeginsReplies setting status run all rest))

-- no pair stands twice in one of these logs
abbrev pub AllOnce : List Log → Type 0
AllOnce [] = Unit {0}
AllOnce (log ∷ logs) = AreDistinct log × AllOnce logs

-- the ledger got some logs, each with its mark, and no pair stands twice in one of them
abbrev pub LogsOnce : List Event → List Event → Type 0
LogsOnce old new = (logs : List Log) × AllOnce logs × (new ≡ old ++ events logs)

-- ---- causes, by how a run ended

-- a run ends with a fault only where the count of that side rose, and the other's did not
abbrev pub FaultsBy : Status → Run → Type 0
FaultsBy Done run = (run.after.source.faults ≡ run.before.source.faults)
    × (run.after.sink.faults ≡ run.before.sink.faults)
FaultsBy BadWords run = (run.after.source.faults ≡ run.before.source.faults)
    × (run.after.sink.faults ≡ run.before.sink.faults)
FaultsBy ReadFault run = CountsFault run.before.source.faults run.after.source.faults
    × (run.after.sink.faults ≡ run.before.sink.faults)
FaultsBy WriteFault run = (run.after.source.faults ≡ run.before.source.faults)
    × CountsFault run.before.sink.faults run.after.sink.faults
FaultsBy NoMemory run = (run.after.source.faults ≡ run.before.source.faults)
    × (run.after.sink.faults ≡ run.before.sink.faults)
FaultsBy InputSpent run = (run.after.source.faults ≡ run.before.source.faults)
    × (run.after.sink.faults ≡ run.before.sink.faults)

-- how many bytes a run takes: all that it may exactly where the input was spent, unless the sink or memory failed then
abbrev pub CountBy : Status → ℕ → Type 0
CountBy Done n = n < MAX_TAKEN
CountBy BadWords n = n ≡ 0
CountBy ReadFault n = n < MAX_TAKEN
CountBy WriteFault n = n ≤ MAX_TAKEN
CountBy NoMemory n = n ≤ MAX_TAKEN
CountBy InputSpent n = n ≡ MAX_TAKEN

-- a run took n bytes, by the source's own number and by the bytes that it tells
abbrev pub TakenBy : Status → Run → Type 0
TakenBy status run =
    (n : ℕ) × CountBy status n × Grew run.before.source.taken n run.after.source.taken
    × TakesCount run.before.source.left run.after.source.left n

-- ---- completeness

-- neither the source nor the sink failed: their counts are as before, and could have risen
pub record IsUntroubled (run : Run) : Type 0 where
  pub source : run.after.source.faults ≡ run.before.source.faults
  pub source_counts : run.before.source.faults < last_count
  pub sink : run.after.sink.faults ≡ run.before.sink.faults
  pub sink_counts : run.before.sink.faults < last_count

-- a source has fewer bytes than a run takes; one that does not tell them gives fewer, by its own number
abbrev pub HasFewer : Option (List ℕ) → ℕ → ℕ → Type 0
HasFewer None taken taken' = (taken < 2 ^ 63) × (taken' < taken + MAX_TAKEN)
HasFewer (Some bytes) taken taken' = length bytes < MAX_TAKEN

-- the run came to its end, or memory did
abbrev pub IsDoneButForMemory : Status → Type 0
IsDoneButForMemory status = (status ≡ Done) ⊎ (status ≡ NoMemory)

-- ---- the whole statement

-- What serving a script answers and leaves, by how it ended.
pub record Serves (setting : Setting) (status : Status) (run : Run) : Type 0 where
  -- after `Done` every line was answered, and nothing else was written or logged
  pub done : status ≡ Done → Served setting run
  -- after a fault of the source, or where the input is spent, every line that ended with a newline in the bytes taken was
  pub broken_off : BreaksOff setting status run
  -- what was written begins the replies to the lines of the bytes taken, in whole replies unless the sink failed
  pub wrote : Wrote setting status run
  -- no pair stands twice in a log
  pub once : LogsOnce run.before.ledger run.after.ledger
  -- each fault has its cause
  pub faults : FaultsBy status run
  -- the bytes were counted
  pub taken : TakenBy status run
  -- without faults, and with fewer bytes than a run takes, a run comes to its end, or memory does
  pub complete : IsUntroubled run
      → HasFewer run.before.source.left run.before.source.taken run.after.source.taken
      → IsDoneButForMemory status
  -- words are none of its matter
  pub words : status ≢ BadWords
