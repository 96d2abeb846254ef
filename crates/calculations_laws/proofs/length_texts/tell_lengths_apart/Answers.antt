use Rattle.calculations_laws.proofs.ReadLengths.{lengths-apart}
use Rattle.calculations_laws.proofs.length_texts.tell_lengths_apart.Goals as goal

pub returns : goal.returns
returns c = lengths-apart
