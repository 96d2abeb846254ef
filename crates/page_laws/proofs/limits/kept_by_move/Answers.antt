use Rattle.page_laws.proofs.MovedLimits.{kept-move}
use Rattle.page_laws.proofs.limits.kept_by_move.Goals as goal

pub returns : goal.returns
returns c = kept-move
