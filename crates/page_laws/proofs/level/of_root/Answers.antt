use Rattle.page_laws.proofs.Levels.{level-top}
use Rattle.page_laws.proofs.level.of_root.Goals as goal

pub returns : goal.returns
returns c = level-top
