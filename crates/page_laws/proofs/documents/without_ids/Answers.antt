use Rattle.page_laws.proofs.WithIds.{without-with_ids}
use Rattle.page_laws.proofs.documents.without_ids.Goals as goal

pub returns : goal.returns
returns c = without-with_ids
