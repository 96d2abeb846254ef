-- The first ones stay.
use Rattle.std.proofs.Common.{◌≡◌, take, length}
use Rattle.css_rules.proofs.lists.shorten.Given as goal

abbrev pub invariant-loop-components : goal.invariant-loop-components
invariant-loop-components l = take l.count l.components ≡ take l.count l.fn.components

abbrev pub decreases-loop-components : goal.decreases-loop-components
decreases-loop-components l = length l.components
