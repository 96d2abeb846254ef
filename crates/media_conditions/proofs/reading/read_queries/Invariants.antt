-- The queries that were read, and those of the rest, are those of all.
use Rattle.std.proofs.Common.{◌≡◌, ◌++◌, length, map}
use Rattle.css_tokens.specs.Nested.{components_view}
use Rattle.conditions_model.specs.MediaQueries as model
use Rattle.media_conditions.specs.Views.{query_view}
use Rattle.media_conditions.proofs.reading.read_queries.Given as goal

abbrev pub invariant-loop-split : goal.invariant-loop-split
invariant-loop-split l =
    map query_view l.queries ++ map model.query_of (model.between_commas (components_view l.rest))
    ≡ map model.query_of (model.between_commas (components_view l.fn.components))

abbrev pub decreases-loop-split : goal.decreases-loop-split
decreases-loop-split l = length l.rest
