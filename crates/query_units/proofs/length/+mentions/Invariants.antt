-- The bases that were found, with those of the rest, are those of all.
use Rattle.std.proofs.Common.{◌≡◌, drop, map}
use Rattle.std.specs.List.{fold}
use Rattle.value_model.specs.Calculations.{all_leaves, union_of_bases}
use Rattle.value_model.specs.Lengths.{mentioned}
use Rattle.query_units.specs.Views.{lengths_view}
use Rattle.query_units.proofs.length.+mentions.Given as goal

abbrev pub invariant-all_mentioned-loop-other : goal.invariant-all_mentioned-loop-other
invariant-all_mentioned-loop-other l =
    fold union_of_bases l.all
    (map mentioned (all_leaves (lengths_view (drop l.other-index l.other-items))))
    ≡ fold union_of_bases l.fn.found (map mentioned (all_leaves (lengths_view l.fn.others)))
