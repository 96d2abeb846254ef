-- The values so far are the same.
use Rattle.std.proofs.Common.{◌≡◌, take}
use Rattle.prop_table.specs.Styles.{style_view}
use Rattle.prop_table.proofs.style.are_same.Given as goal

abbrev pub invariant-loop-i : goal.invariant-loop-i
invariant-loop-i l = style_view (take l.i l.these) ≡ style_view (take l.i l.those)
