use Rattle.std.proofs.Common.{◌≡◌, drop}
use Rattle.std.specs.List.{list_all}
use Rattle.custom_props.specs.inner.Graphs.{is_marked}
use Rattle.custom_props.proofs.searches.are_marked.Given as goal

-- what holds of the rest holds of all
abbrev pub invariant-loop-place : goal.invariant-loop-place
invariant-loop-place l =
    list_all (is_marked l.marks) (drop l.place-index l.places) ≡ list_all (is_marked l.marks) l.places
