use Rattle.rules_laws.proofs.Trimmed.{trimmed-padded}
use Rattle.rules_laws.proofs.parts.trimmed_is_part.Goals as goal

pub returns : goal.returns
returns c = trimmed-padded
