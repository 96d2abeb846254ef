-- A source and a sink in memory: what their next call answers, and what it leaves.
use Rattle.std.specs.Prelude.{ℕ, ◌+◌, ◌-◌, ◌<◌, ◌≤◌, ◌==◌, min, nat_le, List, ◌++◌, length, take, drop, Option, Some, None, Bool, false, if◌then◌else◌}
use Rattle.std.specs.Option.{ForSome}
use Rattle.stream_model.specs.Streams.{SourceState, SinkState, last_count}
use Rattle.port_core.specs.declared.ports.Pull.{Pull}
use Rattle.port_core.specs.declared.ports.Pull.TheVariants as pull
use Rattle.port_core.specs.declared.ports.Push.{Push}
use Rattle.port_core.specs.declared.ports.Push.TheVariants as push

-- a source in memory: the bytes left, how many were taken, the most that a pull gives, the place
-- at which it fails if there is one, and how often it failed
pub record Supply : Type 0 where
  pub left : List ℕ
  pub taken : ℕ
  pub piece : ℕ
  pub fail_at : Option ℕ
  pub faults : ℕ

-- what is seen of a source in memory
abbrev pub supply_seen : Supply → SourceState
supply_seen s = record { left = Some s.left; taken = s.taken; faults = s.faults }

-- taken is the place at which the source fails
abbrev pub is_at : Option ℕ → ℕ → Bool
is_at None taken = false
is_at (Some at) taken = taken == at

-- how many of the next count bytes come before the place at which the source fails
abbrev pub count_before : Option ℕ → ℕ → ℕ → ℕ
count_before None taken count = count
count_before (Some at) taken count = min count (at - taken)

-- the invariant of a source: no more was taken than there are bytes, and than come before the
-- place at which it fails
pub record IsSupply (bytes : List ℕ) (taken piece : ℕ) (fail_at : Option ℕ) (faults : ℕ) : Type 0 where
  pub some : 0 < piece
  pub within : taken ≤ length bytes
  pub ahead : ForSome fail_at (λ at. taken ≤ at)
  pub counted : faults ≤ last_count

-- how many bytes a pull gives: the least of the piece, the buffer's room, what is left, and what
-- comes before the place at which the source fails
abbrev pub portion : Supply → ℕ → ℕ
portion s room = count_before s.fail_at s.taken (min (min s.piece room) (length s.left))

-- what a pull into a buffer of room bytes answers
abbrev pub pull_answer : Supply → ℕ → Pull
pull_answer s room =
    if is_at s.fail_at s.taken then pull.Failed
    else (if length s.left == 0 then pull.End else pull.Bytes (portion s room))

-- what a pull leaves
abbrev pub after_pull : Supply → Pull → Supply
after_pull s (pull.Bytes n) = record s { left = drop n s.left; taken = s.taken + n }
after_pull s pull.End = s
after_pull s pull.Failed = record s { faults = min (s.faults + 1) last_count }

-- a sink in memory: the bytes that it holds, how many it can hold, and how often it failed
pub record Store : Type 0 where
  pub bytes : List ℕ
  pub room : ℕ
  pub faults : ℕ

-- the invariant of a sink: its bytes fit its room, and its room the capacity
pub record IsStore (bytes : List ℕ) (room capacity faults : ℕ) : Type 0 where
  pub within : length bytes ≤ room
  pub taken : room ≤ capacity
  pub counted : faults ≤ last_count

-- what is seen of a sink in memory
abbrev pub store_seen : Store → SinkState
store_seen s = record { held = Some s.bytes; faults = s.faults }

-- what a push of bytes answers
abbrev pub push_answer : Store → List ℕ → Push
push_answer s bytes = if nat_le (length s.bytes + length bytes) s.room then push.Done else push.Failed

-- what a push of bytes leaves: one that fails appends what fits
abbrev pub after_push : Store → List ℕ → Push → Store
after_push s bytes push.Done = record s { bytes = s.bytes ++ bytes }
after_push s bytes push.Failed =
    record s {
      bytes = s.bytes ++ take (s.room - length s.bytes) bytes;
      faults = min (s.faults + 1) last_count;
    }
