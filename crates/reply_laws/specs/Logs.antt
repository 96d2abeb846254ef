-- What is in the logs of a line.
use Rattle.std.specs.Prelude.{List}
use Rattle.stream_model.specs.Ledger.{Log}
use Rattle.stream_model.specs.Lists.{AreDistinct, IsAmong}

-- none of these logs has a pair twice
abbrev pub AreAllDistinct : List Log → Type 0
AreAllDistinct logs = (log : Log) → IsAmong log logs → AreDistinct log
