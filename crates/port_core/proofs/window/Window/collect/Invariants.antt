use Rattle.std.proofs.Common.{◌≡◌, ◌-◌}
use Rattle.stream_model.specs.declared.limits.TheConstants.{MAX_TAKEN}
use Rattle.port_core.specs.inner.Window.{Collecting}
use Rattle.port_core.proofs.window.Window.collect.Given as goal

abbrev pub invariant-loop-self : goal.invariant-loop-self
invariant-loop-self g l = record {
  so_far : Collecting l.fn.self l.self l.draft (g.I.Source.seen l.fn.source) (g.I.Source.seen l.source);
  faults : (g.I.Source.seen l.source).faults ≡ (g.I.Source.seen l.fn.source).faults;
}

abbrev pub decreases-loop-self : goal.decreases-loop-self
decreases-loop-self g l = MAX_TAKEN - l.self.taken
