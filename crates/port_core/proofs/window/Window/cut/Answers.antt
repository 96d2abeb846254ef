use Rattle.std.proofs.Common.{take, refl}
use Rattle.port_core.proofs.LinesLemmas.{newline_parts, IsUnbroken-nowhere}
use Rattle.port_core.proofs.window.Window.cut.Goals as goal

pub returns-in-Some : goal.returns-in-Some
returns-in-Some c =
    let pending = c.args.self.now.pending in
    let parts = newline_parts pending c.in-Some.at (rw c.pending-pending.ensures at c.in-Some.ensures) in
    rw c.advance.ensures record {
      piece = take c.in-Some.at pending;
      unbroken = parts.0;
      parted = parts.1;
      absorbed = rw c.pending-pending.ensures at c.absorb.ensures;
      count = refl;
    }

pub returns-in-None : goal.returns-in-None
returns-in-None c =
    let pending = c.args.self.now.pending in
    rw c.empty.ensures record {
      unbroken = IsUnbroken-nowhere pending (rw c.pending-pending.ensures at c.in-None.ensures);
      empty = refl;
      absorbed = rw c.pending-pending.ensures at c.absorb-in-None.ensures;
      count = refl;
    }
