use Rattle.std.proofs.Common.{refl}
use Rattle.std.specs.Fmt.{digits}
use Rattle.calculations_laws.proofs.length_texts.ask_for_short_numbers.Goals as goal

pub returns-clause-long : goal.returns-clause-long
unfolding digits
returns-clause-long c = refl
