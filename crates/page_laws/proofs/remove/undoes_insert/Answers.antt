use Rattle.page_laws.proofs.TreeAfterRemove.{insert-undone}
use Rattle.page_laws.proofs.remove.undoes_insert.Goals as goal

pub returns : goal.returns
returns c = insert-undone
