use Rattle.stream_laws.proofs.LinesLemmas.{lines-one}
use Rattle.stream_laws.proofs.lines.are_unique.Goals as goal

pub returns : goal.returns
returns c = λ bytes ls a. lines-one ls bytes a
