use Rattle.stream_laws.proofs.LinesLemmas.{whole_lines-ended}
use Rattle.stream_laws.proofs.lines.are_whole_up_to_the_last_newline.Goals as goal

pub returns : goal.returns
returns c = λ ended rest e u. whole_lines-ended ended rest e u
