use Rattle.std.proofs.Common.{◌-◌, arith}
use Rattle.port_core.proofs.memory.MemSinkSink.push.Goals as goal

pub returns-clause-pushes : goal.returns-clause-pushes
returns-clause-pushes c =
    rw (← c.self.view_is) ((c.self.inside.room - c.len.result, omega arith, c.append-2.ensures.items), (omega arith, omega arith))
