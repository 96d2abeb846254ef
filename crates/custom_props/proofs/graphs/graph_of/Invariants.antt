use Rattle.std.proofs.Common.{◌≡◌, ◌++◌, drop, map}
use Rattle.custom_model.specs.NamedValues.{names_of}
use Rattle.custom_props.specs.Views.{values_view}
use Rattle.custom_props.specs.inner.Graphs.{places_of}
use Rattle.custom_props.proofs.graphs.graph_of.Given as goal

-- the places so far and those of the rest
abbrev pub invariant-loop-declaration : goal.invariant-loop-declaration
invariant-loop-declaration l =
    l.graph ++ map (λ v. places_of (names_of (values_view l.declared)) v.1) (values_view (drop l.declaration-index l.declared))
    ≡ map (λ v. places_of (names_of (values_view l.declared)) v.1) (values_view l.declared)
