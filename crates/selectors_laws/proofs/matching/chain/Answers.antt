use Rattle.selectors_laws.proofs.Matched.{chain-from, from-chain}
use Rattle.selectors_laws.proofs.matching.chain.Goals as goal

pub returns : goal.returns
returns c = λ root s i. (chain-from root s i, from-chain root s i)
