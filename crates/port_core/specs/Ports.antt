-- What a call of a source or of a sink does, by its answer.
use Rattle.std.specs.Prelude.{◌≡◌, ℕ, ◌<◌, ◌≤◌, List, length, take}
use Rattle.stream_model.specs.Streams.{SourceState, SinkState, CountsFault, Grew, NothingLeft, Takes, Appends, AppendsPart}
use Rattle.port_core.specs.declared.ports.Pull.{Pull}
use Rattle.port_core.specs.declared.ports.Pull.TheVariants as pull
use Rattle.port_core.specs.declared.ports.Push.{Push}
use Rattle.port_core.specs.declared.ports.Push.TheVariants as push

-- what a pull into buf does to a source
abbrev pub Pulls : Pull → List ℕ → SourceState → SourceState → Type 0
Pulls (pull.Bytes n) buf old new =
    (0 < n) × (n ≤ length buf) × Takes old.left new.left (take n buf) × Grew old.taken n new.taken
    × (new.faults ≡ old.faults)
Pulls pull.End buf old new =
    NothingLeft old.left × (new.left ≡ old.left) × (new.taken ≡ old.taken) × (new.faults ≡ old.faults)
Pulls pull.Failed buf old new =
    (new.left ≡ old.left) × (new.taken ≡ old.taken) × CountsFault old.faults new.faults

-- what a push of bytes does to a sink
abbrev pub Pushes : Push → List ℕ → SinkState → SinkState → Type 0
Pushes push.Done bytes old new = Appends old.held new.held bytes × (new.faults ≡ old.faults)
Pushes push.Failed bytes old new =
    AppendsPart old.held new.held bytes × CountsFault old.faults new.faults
