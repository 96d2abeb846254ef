-- What a reader that has not stopped reads, and what one that has stopped keeps.
use Rattle.std.specs.Prelude.{◌≡◌, ◌-◌, ◌<◌, ◌≤◌, [], Option, Some, None}
use Rattle.stream_model.specs.Streams.{SourceState, FromTo, Grew, TakesCount}
use Rattle.stream_model.specs.declared.limits.TheConstants.{MAX_TAKEN}
use Rattle.port_core.specs.Reader.{Reader, ahead, Gives, Stops, KeepsLine, Spends, CountsFaults, WorksOff}
use Rattle.port_core.specs.inner.Window.{Intake}
use Rattle.port_core.specs.declared.reader.Line.{Line}
use Rattle.port_core.specs.declared.reader.Line.TheVariants.{Whole, TooLong, End, Failed, Spent}

-- what is known of the window of a reader that has stopped with an answer
abbrev pub StaysStopped : Option Line → Intake → Type 0
StaysStopped None w = w.taken ≤ MAX_TAKEN
StaysStopped (Some Whole) w = ⊥
StaysStopped (Some TooLong) w = ⊥
StaysStopped (Some End) w = (w.pending ≡ []) × (w.taken < MAX_TAKEN)
StaysStopped (Some Failed) w = (w.pending ≡ []) × (w.taken < MAX_TAKEN)
StaysStopped (Some Spent) w = (w.pending ≡ []) × (w.taken ≡ MAX_TAKEN)

-- what a call of a reader that had not stopped gives, and leaves of the reader and its source
pub record Reads (answer : Line) (old new : Reader) (source source' : SourceState) : Type 0 where
  pub lines :
      FromTo (ahead old.pending source.left) (ahead new.pending source'.left)
      (Gives answer new.line new.stopped)
  pub told : TakesCount source.left source'.left (new.taken - old.taken)
  pub kept : KeepsLine answer new.line
  pub stops : Stops answer new
  pub forward : old.taken ≤ new.taken
  pub bounded : new.taken ≤ MAX_TAKEN
  pub counted : Grew source.taken (new.taken - old.taken) source'.taken
  pub spent : Spends answer new
  pub work : WorksOff answer old new
  pub faults_counted : CountsFaults None answer source source'
