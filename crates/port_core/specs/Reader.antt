-- A line reader, and what a call of it gives and leaves, by its answer.
use Rattle.std.specs.Prelude.{◌≡◌, ℕ, ◌+◌, ◌-◌, ◌*◌, ◌<◌, ◌≤◌, ◌⊎◌, List, [], ◌∷◌, ◌++◌, length, Option, Some, None, option_map}
use Rattle.stream_model.specs.Streams.{SourceState, CountsFault}
use Rattle.stream_model.specs.Lines.{newline, lines, IsUnbroken}
use Rattle.stream_model.specs.declared.limits.TheConstants.{MAX_LINE, MAX_TAKEN}
use Rattle.port_core.specs.declared.reader.Line.{Line}
use Rattle.port_core.specs.declared.reader.Line.TheVariants.{Whole, TooLong, End, Failed, Spent}

-- a line reader: the bytes that it took and has not given yet, how many it took in its life, the
-- line that it gave, and the answer that it gives from now on if it has stopped
pub record Reader : Type 0 where
  pub pending : List ℕ
  pub taken : ℕ
  pub line : List ℕ
  pub stopped : Option Line

-- a reader that has read nothing yet
abbrev pub new_reader : Reader
new_reader = record { pending = []; taken = 0; line = []; stopped = None }

-- the bytes ahead of a reader: those pending, and then those left of the source
abbrev pub ahead : List ℕ → Option (List ℕ) → Option (List ℕ)
ahead pending left = option_map (λ bytes. pending ++ bytes) left

-- a line ends before a newline, or where the source has ended after at least one byte
abbrev pub EndsLine : List ℕ → Option Line → List ℕ → List ℕ → Type 0
EndsLine line None all rest = all ≡ line ++ newline ∷ rest
EndsLine line (Some stop) all rest = (stop ≡ End) × (0 < length line) × (all ≡ line) × (rest ≡ [])

-- this is the first line of all, and rest is what comes after it
pub record IsFirstLine (line : List ℕ) (stopped : Option Line) (all rest : List ℕ) : Type 0 where
  pub first : lines all ≡ line ∷ lines rest
  pub unbroken : IsUnbroken line
  pub ends : EndsLine line stopped all rest

-- what a call gives, by its answer: the line kept, whether the reader stopped, the bytes ahead
-- before and after
abbrev pub Gives : Line → List ℕ → Option Line → List ℕ → List ℕ → Type 0
Gives Whole kept stopped all rest = IsFirstLine kept stopped all rest × (length kept ≤ MAX_LINE)
Gives TooLong kept stopped all rest =
    (line : List ℕ) × IsFirstLine line stopped all rest × (MAX_LINE < length line)
Gives End kept stopped all rest = (all ≡ []) × (rest ≡ [])
Gives Failed kept stopped all rest = (part : List ℕ) × IsUnbroken part × (all ≡ part ++ rest)
Gives Spent kept stopped all rest = (part : List ℕ) × IsUnbroken part × (all ≡ part ++ rest)

-- the reader has not stopped, or the source has ended
abbrev pub HasNotFailed : Reader → Type 0
HasNotFailed r = (r.stopped ≡ None) ⊎ (r.stopped ≡ Some End)

-- the reader gives this answer from now on, and has nothing pending
abbrev pub HasStopped : Line → Reader → Type 0
HasStopped answer r = (r.stopped ≡ Some answer) × (r.pending ≡ [])

-- whether a reader stops, by its answer
abbrev pub Stops : Line → Reader → Type 0
Stops Whole r = HasNotFailed r
Stops TooLong r = HasNotFailed r
Stops End r = HasStopped End r
Stops Failed r = HasStopped Failed r
Stops Spent r = HasStopped Spent r

-- a line is kept after `Whole` alone, and then it is not too long
abbrev pub KeepsLine : Line → List ℕ → Type 0
KeepsLine Whole line = length line ≤ MAX_LINE
KeepsLine TooLong line = line ≡ []
KeepsLine End line = line ≡ []
KeepsLine Failed line = line ≡ []
KeepsLine Spent line = line ≡ []

-- a reader whose source has ended took fewer bytes than it may
abbrev pub EndsEarly : Reader → Type 0
EndsEarly r = r.stopped ≡ Some End → r.taken < MAX_TAKEN

-- whether a reader took all that it may in its life, by its answer
abbrev pub Spends : Line → Reader → Type 0
Spends Whole r = EndsEarly r
Spends TooLong r = EndsEarly r
Spends End r = r.taken < MAX_TAKEN
Spends Failed r = r.taken < MAX_TAKEN
Spends Spent r = r.taken ≡ MAX_TAKEN

-- the source's count of faults rises only where a reader that had not stopped answers `Failed`
abbrev pub CountsFaults : Option Line → Line → SourceState → SourceState → Type 0
CountsFaults None Failed old new = CountsFault old.faults new.faults
CountsFaults None Whole old new = new.faults ≡ old.faults
CountsFaults None TooLong old new = new.faults ≡ old.faults
CountsFaults None End old new = new.faults ≡ old.faults
CountsFaults None Spent old new = new.faults ≡ old.faults
CountsFaults (Some stop) answer old new = new.faults ≡ old.faults

-- one for a reader that has not stopped
abbrev pub going : Option Line → ℕ
going None = 1
going (Some stop) = 0

-- a measure of what a reader can still do: it falls with each line
abbrev pub work : Reader → ℕ
work r = 2 * (MAX_TAKEN - r.taken) + length r.pending + going r.stopped

-- the work falls with each line
abbrev pub WorksOff : Line → Reader → Reader → Type 0
WorksOff Whole old new = work new < work old
WorksOff TooLong old new = work new < work old
WorksOff End old new = Unit {0}
WorksOff Failed old new = Unit {0}
WorksOff Spent old new = Unit {0}
