use Rattle.rules_laws.proofs.Trimmed.{padded-trimmed}
use Rattle.rules_laws.proofs.parts.no_other_part.Goals as goal

pub returns : goal.returns
returns c = padded-trimmed
