use Rattle.std.proofs.Common.{take, drop, sym}
use Rattle.std.proofs.lemmas.List.{take-append-drop}
use Rattle.stream_laws.proofs.streams.a_part_is_a_front.Goals as goal

pub returns : goal.returns
returns c = λ old new bytes part. (take part.0 bytes, drop part.0 bytes, sym (take-append-drop part.0 bytes), part.2)
