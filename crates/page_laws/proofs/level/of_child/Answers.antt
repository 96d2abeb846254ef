use Rattle.page_laws.proofs.Levels.{level-child}
use Rattle.page_laws.proofs.level.of_child.Goals as goal

pub returns : goal.returns
returns c = level-child
