use Rattle.std.proofs.Common.{◌∙◌}
use Rattle.port_core.proofs.CollectsLemmas.{Collecting-part, Collecting-more, CollectsLine-cut, Halts-rests}
use Rattle.port_core.proofs.StreamLemmas.{CountsFault-after}
use Rattle.port_core.proofs.window.Window.collect.Goals as goal

pub returns-in-Line : goal.returns-in-Line
returns-in-Line g c =
    CollectsLine-cut _ _ _ _ _ _ _ c.in-Line.ensures c.loop-self.invariant.faults c.loop-self.invariant.so_far

pub loop-self-preserved : goal.loop-self-preserved
loop-self-preserved g c = record {
  so_far = Collecting-more _ _ _ _ _ _ _ c.in-Part.ensures.empty c.in-More.ensures (Collecting-part _ _ _ _ _ _ _ c.in-Part.ensures c.loop-self.invariant.so_far);
  faults = c.in-More.ensures.faults ∙ c.loop-self.invariant.faults;
}

pub returns-in-End : goal.returns-in-End
returns-in-End g c = record {
  halts = Halts-rests _ _ _ _ _ _ _ _ _ c.in-Part.ensures c.in-End.ensures.rests c.loop-self.invariant.so_far;
  nothing = c.in-End.ensures.nothing;
  early = c.in-End.ensures.early;
  faults = c.in-End.ensures.faults ∙ c.loop-self.invariant.faults;
}

pub returns-in-Failed : goal.returns-in-Failed
returns-in-Failed g c = record {
  halts = Halts-rests _ _ _ _ _ _ _ _ _ c.in-Part.ensures c.in-Failed.ensures.rests c.loop-self.invariant.so_far;
  early = c.in-Failed.ensures.early;
  faults = CountsFault-after _ _ _ c.loop-self.invariant.faults c.in-Failed.ensures.faults;
}

pub returns-in-Spent : goal.returns-in-Spent
returns-in-Spent g c = record {
  halts = Halts-rests _ _ _ _ _ _ _ _ _ c.in-Part.ensures c.in-Spent.ensures.rests c.loop-self.invariant.so_far;
  all = c.in-Spent.ensures.all;
  faults = c.in-Spent.ensures.faults ∙ c.loop-self.invariant.faults;
}
