use Rattle.std.proofs.Common.{length}
use Rattle.page_styles.proofs.chains.+chain_below.Given as goal

abbrev pub decreases-chain_below : goal.decreases-chain_below
decreases-chain_below g l = length l.above.now
