use Rattle.stream_laws.proofs.ListsLemmas.{IsAmong-get, IsAmong-from_get}
use Rattle.stream_laws.proofs.lists.elements_have_an_index.Goals as goal

pub returns : goal.returns
returns g c = λ x xs. (IsAmong-get x xs, λ found. IsAmong-from_get x xs found.0 found.1)
