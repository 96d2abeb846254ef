use Rattle.stream_laws.proofs.ListsLemmas.{AreDistinct-index, AreDistinct-from_index}
use Rattle.stream_laws.proofs.lists.distinct_elements_have_one_index.Goals as goal

pub returns : goal.returns
returns g c = λ xs. (AreDistinct-index xs, AreDistinct-from_index xs)
