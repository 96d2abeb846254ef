use Rattle.stream_laws.proofs.LinesLemmas.{AreLines-lines}
use Rattle.stream_laws.proofs.lines.are_cut_at_newlines.Goals as goal

pub returns : goal.returns
returns c = λ bytes. AreLines-lines bytes
