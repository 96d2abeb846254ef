-- The values of a style, one by one.
use Rattle.std.proofs.Common.{◌≡◌, refl}
use Rattle.value_model.specs.declared.prop.Prop.{Prop}
use Rattle.value_model.specs.declared.prop.Prop.TheVariants.{Display, Width, Height, MinWidth, MinHeight, MaxWidth, MaxHeight, MarginTop, MarginRight, MarginBottom, MarginLeft, PaddingTop, PaddingRight, PaddingBottom, PaddingLeft, BorderTopWidth, BorderRightWidth, BorderBottomWidth, BorderLeftWidth, BorderTopStyle, BorderRightStyle, BorderBottomStyle, BorderLeftStyle, BorderTopColor, BorderRightColor, BorderBottomColor, BorderLeftColor, BoxSizing, FontSize, LineHeight, Color, BackgroundColor, TextAlign, WhiteSpace, Overflow, Contain, ContainerType, ContainerName, Visibility, Opacity, FontStyle, FontWeight, ZIndex, TextDecorationLine, PointerEvents}
use Rattle.cascade_model.specs.Defaulting.{value_in}
use Rattle.cascade_model.specs.StyleEquation.{Given, final_value, style_of}

-- the value of a property in a style is the one of the equation
pub value-is : (g : Given) (p : Prop) → value_in (style_of g) p ≡ final_value g p
value-is g Display = refl
value-is g Width = refl
value-is g Height = refl
value-is g MinWidth = refl
value-is g MinHeight = refl
value-is g MaxWidth = refl
value-is g MaxHeight = refl
value-is g MarginTop = refl
value-is g MarginRight = refl
value-is g MarginBottom = refl
value-is g MarginLeft = refl
value-is g PaddingTop = refl
value-is g PaddingRight = refl
value-is g PaddingBottom = refl
value-is g PaddingLeft = refl
value-is g BorderTopWidth = refl
value-is g BorderRightWidth = refl
value-is g BorderBottomWidth = refl
value-is g BorderLeftWidth = refl
value-is g BorderTopStyle = refl
value-is g BorderRightStyle = refl
value-is g BorderBottomStyle = refl
value-is g BorderLeftStyle = refl
value-is g BorderTopColor = refl
value-is g BorderRightColor = refl
value-is g BorderBottomColor = refl
value-is g BorderLeftColor = refl
value-is g BoxSizing = refl
value-is g FontSize = refl
value-is g LineHeight = refl
value-is g Color = refl
value-is g BackgroundColor = refl
value-is g TextAlign = refl
value-is g WhiteSpace = refl
value-is g Overflow = refl
value-is g Contain = refl
value-is g ContainerType = refl
value-is g ContainerName = refl
value-is g Visibility = refl
value-is g Opacity = refl
value-is g FontStyle = refl
value-is g FontWeight = refl
value-is g ZIndex = refl
value-is g TextDecorationLine = refl
value-is g PointerEvents = refl
