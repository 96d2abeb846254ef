-- The lists are the same where their rests are.
use Rattle.std.proofs.Common.{◌≡◌, take}
use Rattle.prop_table.proofs.name_lists.are_same.Given as goal

abbrev pub invariant-loop-place : goal.invariant-loop-place
invariant-loop-place l = take l.place l.a ≡ take l.place l.b
