use Rattle.css_rules.proofs.Marks.{NoMarkBefore}
use Rattle.css_rules.proofs.important.mark_place.Given as goal

abbrev pub invariant-loop-place : goal.invariant-loop-place
invariant-loop-place l = NoMarkBefore l.value l.place
