-- A source over a reader and a sink over a writer: what is seen of them, and what a call does
-- to bytes that the reader or the writer tells.
use Rattle.std.specs.Prelude.{ℕ, ◌≤◌, ◌==◌, if◌then◌else◌, List, [], length, take, Option, None, Result, Ok, Err}
use Rattle.std.specs.Io.KnownBytes.{Keeps, Appends, Consumes, IsAtEnd}
use Rattle.stream_model.specs.Streams.{SourceState, SinkState}
use Rattle.port_core.specs.declared.ports.Pull.{Pull}
use Rattle.port_core.specs.declared.ports.Pull.TheVariants as pull
use Rattle.port_core.specs.declared.ports.Push.{Push}
use Rattle.port_core.specs.declared.ports.Push.TheVariants as push

-- what is seen of a source over a reader: no bytes, whatever the reader tells
abbrev pub inlet_seen : SourceState → SourceState
inlet_seen s = record s { left = None }

-- what is seen of a sink over a writer: no bytes, whatever the writer tells
abbrev pub outlet_seen : SinkState → SinkState
outlet_seen s = record s { held = None }

-- what a pull into buf takes of a reader that tells its bytes
abbrev pub ReadsOf : Pull → List ℕ → Option (List ℕ) → Option (List ℕ) → Type 0
ReadsOf (pull.Bytes n) buf unread unread' = Consumes unread unread' (take n buf)
ReadsOf pull.End buf unread unread' = Consumes unread unread' [] × IsAtEnd unread'
ReadsOf pull.Failed buf unread unread' = Keeps unread unread'

-- what a push of bytes gives a writer that tells its bytes: all of them, or a part where it failed
abbrev pub WritesTo : Push → List ℕ → Option (List ℕ) → Option (List ℕ) → Type 0
WritesTo push.Done bytes written written' = Appends written written' bytes
WritesTo push.Failed bytes written written' =
    (k : ℕ) × (k ≤ length bytes) × Appends written written' (take k bytes)

-- what a source answers, by what its reader did with a buffer that is not empty
abbrev pub pull_of_read : {E : Type 0} → Result ℕ E → Pull
pull_of_read (Ok n) = if n == 0 then pull.End else pull.Bytes n
pull_of_read (Err e) = pull.Failed

-- what a sink answers, by the flush after the last write
abbrev pub push_of_flush : {X E : Type 0} → Result X E → Push
push_of_flush (Ok x) = push.Done
push_of_flush (Err e) = push.Failed
