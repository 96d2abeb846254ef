-- What the words of the command line make a run do.
use Rattle.std.specs.Prelude.{◌≡◌, ℕ, List, length, codes}
use Rattle.stream_model.specs.Streams.{SinkState, CountsFault, Appends, AppendsPart}
use Rattle.relayout_cli.specs.declared.status.Status.{Status}
use Rattle.relayout_cli.specs.declared.status.Status.TheVariants.{Done, BadWords, ReadFault, WriteFault, NoMemory, InputSpent}

-- the line that tells what the words may be
unfoldable pub usage : List ℕ
usage = codes "usage: relayout [--gen N] [--profile 1|2]\n"

-- the words are the program's name alone: its options are not built yet
abbrev pub AreWords : List (List ℕ) → Type 0
AreWords words = length words ≡ 1

-- what telling the usage does to the sink, by how it ended
abbrev pub TellsUsage : Status → SinkState → SinkState → Type 0
TellsUsage Done old new = ⊥
TellsUsage BadWords old new = Appends old.held new.held usage × (new.faults ≡ old.faults)
TellsUsage ReadFault old new = ⊥
TellsUsage WriteFault old new = AppendsPart old.held new.held usage × CountsFault old.faults new.faults
TellsUsage NoMemory old new = new ≡ old
TellsUsage InputSpent old new = ⊥
