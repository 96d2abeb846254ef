use Rattle.port_core.proofs.CountsLemmas.{CountsSinceMark-pair}
use Rattle.port_core.specs.inner.Past.{events_of}
use Rattle.port_core.proofs.steps.Steps.tick.Goals as goal

pub invariant_of-self : goal.invariant_of-self
invariant_of-self g c =
    rw (c.of.ensures, c.replace-before.ensures.value, c.raise.ensures) (CountsSinceMark-pair _ (events_of c.self.inside.past.value) c.args.kind c.args.id c.self.invariant)
