use Rattle.std.proofs.Common.{◌≡◌, drop}
use Rattle.std.specs.Str.{chars}
use Rattle.dom_arena.specs.Spots.{behind, spot_of}
use Rattle.dom_arena.proofs.spots.spot_of.Given as goal

-- the spot is not among the attributes so far
abbrev pub invariant-loop-i : goal.invariant-loop-i
invariant-loop-i l = behind l.i (spot_of (chars l.name) (drop l.i l.attributes)) ≡ spot_of (chars l.name) l.attributes
