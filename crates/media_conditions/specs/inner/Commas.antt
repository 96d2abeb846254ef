-- Component values before and after a comma.
use Rattle.std.specs.Prelude.{List, [], ◌∷◌, Option, Some, None}
use Rattle.css_model.specs.Components.{Components}
use Rattle.css_tokens.specs.Nested.{component_view, components_view}
use Rattle.css_tokens.specs.declared.component.Component.{Component}
use Rattle.conditions_model.specs.MediaQueries.{between_commas, in_first_piece}
use Rattle.media_conditions.specs.declared.commas.Split.{Split}

-- component values in front of the first piece
abbrev pub in_front : List Component → List Components → List Components
in_front [] pieces = pieces
in_front (c ∷ cs) pieces = in_first_piece (component_view c) (in_front cs pieces)

-- the pieces of component values that were split at their first comma, if they have one
abbrev pub pieces_seen : List Component → Option Split → List Components
pieces_seen cs None = components_view cs ∷ []
pieces_seen cs (Some s) =
    components_view s.before.now ∷ between_commas (components_view s.after.now)
