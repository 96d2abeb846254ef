-- The numbers of the statuses.
use Rattle.std.specs.Prelude.{ℕ}
use Rattle.relayout_cli.specs.declared.status.Status.{Status}
use Rattle.relayout_cli.specs.declared.status.Status.TheVariants.{Done, BadWords, ReadFault, WriteFault, NoMemory, InputSpent}

abbrev pub status_number : Status → ℕ
status_number Done = 0
status_number BadWords = 2
status_number ReadFault = 3
status_number WriteFault = 4
status_number NoMemory = 5
status_number InputSpent = 6
