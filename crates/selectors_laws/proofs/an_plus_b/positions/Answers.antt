use Rattle.selectors_laws.proofs.Positions.{of-position, position-of}
use Rattle.selectors_laws.proofs.an_plus_b.positions.Goals as goal

pub returns : goal.returns
returns c = λ at p. (position-of at p, of-position at p)
