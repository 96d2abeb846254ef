use Rattle.page_laws.proofs.DocumentAfterRemove.{document-undone}
use Rattle.page_laws.proofs.documents.remove_undoes_insert.Goals as goal

pub returns : goal.returns
returns c = document-undone
