-- A window onto a source, and how a line is collected through it.
use Rattle.std.specs.Prelude.{◌≡◌, ℕ, ◌+◌, ◌-◌, ◌*◌, ◌<◌, ◌≤◌, List, [], ◌∷◌, ◌++◌, length}
use Rattle.stream_model.specs.Streams.{SourceState, FromTo, CountsFault, Grew, NothingLeft, Takes, TakesCount}
use Rattle.stream_model.specs.Lines.{newline, IsUnbroken}
use Rattle.stream_model.specs.declared.limits.TheConstants.{MAX_TAKEN}
use Rattle.port_core.specs.inner.Draft.{IsDraftOf, Absorbs}
use Rattle.port_core.specs.Reader.{ahead}
use Rattle.port_core.specs.declared.window.Cut.{Cut}
use Rattle.port_core.specs.declared.window.Cut.TheVariants as cut
use Rattle.port_core.specs.declared.window.Refill.{Refill}
use Rattle.port_core.specs.declared.window.Refill.TheVariants as refill
use Rattle.port_core.specs.declared.window.Stop.{Stop}
use Rattle.port_core.specs.declared.window.Stop.TheVariants as stop

-- a window: the bytes that were pulled and not moved into a line yet, and how many were pulled in
-- its life
pub record Intake : Type 0 where
  pub pending : List ℕ
  pub taken : ℕ

-- a measure of what a window can still do: it falls with each byte
abbrev pub effort : Intake → ℕ
effort w = 2 * (MAX_TAKEN - w.taken) + length w.pending

-- the bytes before the first newline went into the draft, and the newline was taken out too
pub record CutsLine (old new : Intake) (draft draft' : List ℕ) : Type 0 where
  pub piece : List ℕ
  pub unbroken : IsUnbroken piece
  pub parted : old.pending ≡ piece ++ newline ∷ new.pending
  pub absorbed : Absorbs draft piece draft'
  pub count : new.taken ≡ old.taken

-- all that was pending went into the draft, and has no newline
pub record CutsPart (old new : Intake) (draft draft' : List ℕ) : Type 0 where
  pub unbroken : IsUnbroken old.pending
  pub empty : new.pending ≡ []
  pub absorbed : Absorbs draft old.pending draft'
  pub count : new.taken ≡ old.taken

-- what a cut takes out of the window into the draft, by what it found
abbrev pub Cuts : Cut → Intake → Intake → List ℕ → List ℕ → Type 0
Cuts cut.Line old new draft draft' = CutsLine old new draft draft'
Cuts cut.Part old new draft draft' = CutsPart old new draft draft'

-- the window took of the source what it has pending now
pub record Fills (old new : Intake) (source source' : SourceState) : Type 0 where
  pub takes : Takes source.left source'.left new.pending
  pub some : 0 < length new.pending
  pub count : new.taken ≡ old.taken + length new.pending
  pub bounded : new.taken ≤ MAX_TAKEN
  pub grew : Grew source.taken (length new.pending) source'.taken
  pub faults : source'.faults ≡ source.faults

-- the window has nothing pending, and took no byte of the source
pub record Rests (old new : Intake) (source source' : SourceState) : Type 0 where
  pub empty : new.pending ≡ []
  pub count : new.taken ≡ old.taken
  pub left_same : source'.left ≡ source.left
  pub taken_same : source'.taken ≡ source.taken

-- the source has ended, before the window took all that it may
pub record FindsEnd (old new : Intake) (source source' : SourceState) : Type 0 where
  pub rests : Rests old new source source'
  pub nothing : NothingLeft source'.left
  pub early : new.taken < MAX_TAKEN
  pub faults : source'.faults ≡ source.faults

-- the source failed, before the window took all that it may
pub record Fails (old new : Intake) (source source' : SourceState) : Type 0 where
  pub rests : Rests old new source source'
  pub early : new.taken < MAX_TAKEN
  pub faults : CountsFault source.faults source'.faults

-- the window took all that it may
pub record IsSpent (old new : Intake) (source source' : SourceState) : Type 0 where
  pub rests : Rests old new source source'
  pub all : new.taken ≡ MAX_TAKEN
  pub faults : source'.faults ≡ source.faults

-- what one pull does where nothing is pending, by what it found
abbrev pub Refills : Refill → Intake → Intake → SourceState → SourceState → Type 0
Refills refill.More old new source source' = Fills old new source source'
Refills refill.End old new source source' = FindsEnd old new source source'
Refills refill.Failed old new source source' = Fails old new source source'
Refills refill.Spent old new source source' = IsSpent old new source source'

-- bytes were taken of the source, and the effort has not grown
pub record Advances (old new : Intake) (source source' : SourceState) : Type 0 where
  pub forward : old.taken ≤ new.taken
  pub bounded : new.taken ≤ MAX_TAKEN
  pub grew : Grew source.taken (new.taken - old.taken) source'.taken
  pub told : TakesCount source.left source'.left (new.taken - old.taken)
  pub effort_falls : effort new ≤ effort old

-- the front of a line was taken up, and there is a draft of it
pub record TakesUp (draft all rest : List ℕ) : Type 0 where
  pub front : List ℕ
  pub unbroken : IsUnbroken front
  pub same : all ≡ front ++ rest
  pub kept : IsDraftOf draft front

-- a line with its newline was taken up, and there is a draft of it
pub record TakesUpLine (draft all rest : List ℕ) : Type 0 where
  pub front : List ℕ
  pub unbroken : IsUnbroken front
  pub same : all ≡ front ++ newline ∷ rest
  pub kept : IsDraftOf draft front

-- while a line is collected: its front so far was taken up
pub record Collecting (old new : Intake) (draft : List ℕ) (source source' : SourceState) : Type 0 where
  pub bytes : FromTo (ahead old.pending source.left) (ahead new.pending source'.left) (TakesUp draft)
  pub moves : Advances old new source source'

-- a line was collected up to its newline
pub record CollectsLine (old new : Intake) (draft : List ℕ) (source source' : SourceState) : Type 0 where
  pub bytes : FromTo (ahead old.pending source.left) (ahead new.pending source'.left)
      (TakesUpLine draft)
  pub moves : Advances old new source source'
  pub effort_less : effort new < effort old
  pub faults : source'.faults ≡ source.faults

-- the collecting stopped before a newline, with nothing pending
pub record Halts (old new : Intake) (draft : List ℕ) (source source' : SourceState) : Type 0 where
  pub so_far : Collecting old new draft source source'
  pub empty : new.pending ≡ []

-- the collecting stopped where the source ended
pub record CollectsLast (old new : Intake) (draft : List ℕ) (source source' : SourceState) : Type 0 where
  pub halts : Halts old new draft source source'
  pub nothing : NothingLeft source'.left
  pub early : new.taken < MAX_TAKEN
  pub faults : source'.faults ≡ source.faults

-- the collecting stopped where the source failed
pub record BreaksOff (old new : Intake) (draft : List ℕ) (source source' : SourceState) : Type 0 where
  pub halts : Halts old new draft source source'
  pub early : new.taken < MAX_TAKEN
  pub faults : CountsFault source.faults source'.faults

-- the collecting stopped where the window had taken all that it may
pub record RunsOut (old new : Intake) (draft : List ℕ) (source source' : SourceState) : Type 0 where
  pub halts : Halts old new draft source source'
  pub all : new.taken ≡ MAX_TAKEN
  pub faults : source'.faults ≡ source.faults

-- what was collected, by where it stopped
abbrev pub Collects : Stop → Intake → Intake → List ℕ → SourceState → SourceState → Type 0
Collects stop.Line old new draft source source' = CollectsLine old new draft source source'
Collects stop.End old new draft source source' = CollectsLast old new draft source source'
Collects stop.Failed old new draft source source' = BreaksOff old new draft source source'
Collects stop.Spent old new draft source source' = RunsOut old new draft source source'

-- the invariant of a window: the pending bytes are in the chunk, and no more were taken than may be
pub record IsWindow (start end : ℕ) (chunk : List ℕ) (taken : ℕ) : Type 0 where
  pub ordered : start ≤ end
  pub within : end ≤ length chunk
  pub some : 0 < length chunk
  pub bounded : taken ≤ MAX_TAKEN
