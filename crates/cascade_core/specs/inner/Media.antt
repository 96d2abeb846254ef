-- The media queries around the rules of a sheet.
use Rattle.std.specs.Prelude.{ℕ, List, [], get_or, Option, Some, None}
use Rattle.conditions_model.specs.MediaQueries.{MediaQuery}

-- for each condition of a sheet, the queries of the `@media` blocks up to it
abbrev pub MediaPlaces : Type 0
MediaPlaces = List (List (List MediaQuery))

-- those up to the condition in a place, if there is one
abbrev pub media_at : MediaPlaces → Option ℕ → List (List MediaQuery)
media_at places None = []
media_at places (Some place) = get_or places place []
