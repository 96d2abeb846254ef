-- What was valued, with the value of the rest, has the value of all.
use Rattle.std.proofs.Common.{◌≡◌, drop}
use Rattle.conditions_model.specs.ConditionTrees.{all_value, any_value}
use Rattle.conditions_model.specs.TriTables.{tri_and, tri_or}
use Rattle.tri_conditions.specs.Views.{conditions_view}
use Rattle.tri_conditions.proofs.values.+values.Given as goal

abbrev pub invariant-all-loop-part : goal.invariant-all-loop-part
invariant-all-loop-part g l =
    tri_and l.value
    (all_value (g.J.Judge.judges l.fn.j) (conditions_view (drop l.part-index l.part-items)))
    ≡ all_value (g.J.Judge.judges l.fn.j) (conditions_view l.fn.parts)

abbrev pub invariant-any-loop-part : goal.invariant-any-loop-part
invariant-any-loop-part g l =
    tri_or l.value
    (any_value (g.J.Judge.judges l.fn.j) (conditions_view (drop l.part-index l.part-items)))
    ≡ any_value (g.J.Judge.judges l.fn.j) (conditions_view l.fn.parts)
