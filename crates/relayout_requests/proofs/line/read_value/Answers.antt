use Rattle.relayout_requests.proofs.LineLemmas.{value_of-some, value_of-none}
use Rattle.relayout_requests.proofs.line.read_value.Goals as goal

pub returns-in-Ok : goal.returns-in-Ok
returns-in-Ok c = value_of-some _ _ c.in-Ok.ensures.ok.0 c.in-Ok.ensures.ok.1

pub returns-else-is_memory : goal.returns-else-is_memory
returns-else-is_memory c = value_of-none _ (λ u. c.in-Err.ensures.err (λ m. cc (c.is_memory.ensures.1 m, c.if-is_memory.false)) u)
