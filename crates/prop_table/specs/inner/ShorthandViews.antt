-- Which shorthands of the definitions these are.
use Rattle.std.specs.Prelude.{List, map}
use Rattle.value_model.specs.declared.prop.Prop.{Prop}
use Rattle.value_model.specs.declared.wide_keyword.WideKeyword.{WideKeyword}
use Rattle.value_model.specs.Shorthands as shorthands
use Rattle.value_model.specs.Values.{wide_keyword}
use Rattle.prop_table.specs.declared.shorthand.Border.{Border}
use Rattle.prop_table.specs.declared.shorthand.Shorthand.{Shorthand}
use Rattle.prop_table.specs.declared.shorthand.Shorthand.TheVariants as shorthand

abbrev pub border_view : Border → shorthands.Border
border_view b = record { width = b.width; style = b.style; color = b.color }

abbrev pub borders_view : List Border → List shorthands.Border
borders_view bs = map border_view bs

abbrev pub shorthand_view : Shorthand → shorthands.Shorthand
shorthand_view (shorthand.FourSides s) = shorthands.four_sides s.top s.right s.bottom s.left
shorthand_view (shorthand.TwoSides start end) = shorthands.two_sides start end
shorthand_view (shorthand.Borders sides) = shorthands.borders (borders_view sides.now)
shorthand_view shorthand.Background = shorthands.background
shorthand_view shorthand.Container = shorthands.container
shorthand_view shorthand.All = shorthands.all

-- a CSS-wide keyword for each property
abbrev pub wide_longhands : WideKeyword → List Prop → List shorthands.Longhand
wide_longhands wide props = map (λ p. (p, wide_keyword wide)) props
