use Rattle.port_core.proofs.CountsLemmas.{CountsSinceMark-mark}
use Rattle.port_core.specs.inner.Past.{events_of}
use Rattle.port_core.proofs.steps.Steps.mark.Goals as goal

pub invariant_of-self : goal.invariant_of-self
invariant_of-self g c =
    rw (c.of.ensures, c.replace-before.ensures.value) (CountsSinceMark-mark _ (events_of c.self.inside.past.value) c.none-self-inside.ensures)
