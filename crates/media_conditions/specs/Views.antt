-- Which media queries of the definitions these are.
use Rattle.std.specs.Prelude.{List, map, option_map}
use Rattle.conditions_model.specs.MediaQueries as model
use Rattle.tri_conditions.specs.Views.{condition_view}
use Rattle.media_conditions.specs.declared.query.MediaList.{MediaList}
use Rattle.media_conditions.specs.declared.query.MediaQuery.{MediaQuery}
use Rattle.media_conditions.specs.declared.query.MediaQuery.TheVariants.{Condition, Typed}
use Rattle.media_conditions.specs.declared.query.TypedQuery.{TypedQuery}

abbrev pub typed_view : TypedQuery → model.MediaQuery
typed_view t = model.type_query t.negated t.media_type (option_map condition_view t.also)

abbrev pub query_view : MediaQuery → model.MediaQuery
query_view (Condition c) = model.condition_query (condition_view c)
query_view (Typed t) = typed_view t

abbrev pub queries_view : MediaList → List model.MediaQuery
queries_view m = map query_view m.queries
