use Rattle.css_laws.proofs.OneTokenList.{one-token_list}
use Rattle.css_laws.proofs.tokens.are_unique.Goals as goal

pub returns : goal.returns
returns c = one-token_list
