use Rattle.page_laws.proofs.WithIds.{ids-with_ids}
use Rattle.page_laws.proofs.documents.ids_count_up.Goals as goal

pub returns : goal.returns
returns c = ids-with_ids
