use Rattle.std.proofs.Common.{refl, sym, ◌∙◌, arith}
use Rattle.port_core.proofs.MemoryLemmas.{count_before-bounds}
use Rattle.port_core.proofs.memory.MemSourceSource.pull.Goals as goal

pub returns-clause-pulls : goal.returns-clause-pulls
returns-clause-pulls c =
    let s = c.self.inside in
    let bounds = count_before-bounds s.fail_at s.taken c.min-most.result (sym c.stands_at.ensures ∙ c.if-stands_at.false) c.self.invariant.ahead (omega arith) in
    rw (← c.self.view_is) (omega (arith, bounds.0), omega (arith, bounds.1), rw c.as_slice.ensures.value at c.copy_piece.ensures, omega (arith, bounds.1), refl)
