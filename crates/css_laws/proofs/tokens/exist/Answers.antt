use Rattle.css_model.proofs.NumberPieces.{tokens-are-tokens}
use Rattle.css_laws.proofs.tokens.exist.Goals as goal

pub returns : goal.returns
returns c = tokens-are-tokens
