-- One of the rest is Yes where one of all is.
use Rattle.std.proofs.Common.{◌≡◌, drop, map}
use Rattle.std.specs.List.{list_any}
use Rattle.conditions_model.specs.MediaQueries as model
use Rattle.conditions_model.specs.TriTables.{is_yes}
use Rattle.media_conditions.specs.Views.{query_view}
use Rattle.media_conditions.proofs.matching.any_is_yes.Given as goal

abbrev pub invariant-loop-query : goal.invariant-loop-query
invariant-loop-query l =
    list_any (λ q. is_yes (model.query_value l.fn.judge.viewport q)) (map query_view (drop l.query-index l.queries))
    ≡ list_any (λ q. is_yes (model.query_value l.fn.judge.viewport q)) (map query_view l.fn.queries)
