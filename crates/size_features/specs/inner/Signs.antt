-- Component values before and after a sign of comparison.
use Rattle.std.specs.Prelude.{List, [], ◌∷◌, Option, Some, None}
use Rattle.css_model.specs.Components.{no_components}
use Rattle.css_tokens.specs.Nested.{component_view, components_view}
use Rattle.css_tokens.specs.declared.component.Component.{Component}
use Rattle.conditions_model.specs.declared.comparison.Comparison.{Comparison}
use Rattle.conditions_model.specs.declared.comparison.Comparison.TheVariants.{LessThan, AtMost, EqualTo, AtLeast, MoreThan}
use Rattle.conditions_model.specs.SizeFeatures.{Sides, last_side, side, in_first_side, sides_of}
use Rattle.size_features.specs.declared.signs.Sided.{Sided}
use Rattle.size_features.specs.declared.signs.Sign.{Sign}

-- component values in front of the first side
abbrev pub in_front : List Component → Sides → Sides
in_front [] rest = rest
in_front (c ∷ cs) rest = in_first_side (component_view c) (in_front cs rest)

-- a sign with nothing before it, and the sides after it
abbrev pub sign_seen : Sign → Sides
sign_seen s = side no_components s.comparison (sides_of (components_view s.after.now))

-- the sides of component values that were split at their first sign, if they have one
abbrev pub sides_seen : List Component → Option Sided → Sides
sides_seen cs None = last_side (components_view cs)
sides_seen cs (Some s) =
    side (components_view s.before.now) s.sign.comparison
    (sides_of (components_view s.sign.after.now))

-- the comparison of a sign with a `=` right after it
abbrev pub with_equal : Comparison → Option Comparison
with_equal LessThan = Some AtMost
with_equal MoreThan = Some AtLeast
with_equal other = None

-- the sides after a `=` in front
abbrev pub after_equal : Sides → Option Sides
after_equal (side no_components EqualTo rest) = Some rest
after_equal other = None
