-- What lengths refer to, property by property.
use Rattle.std.proofs.Common.{◌≡◌, ◌≢◌, refl}
use Rattle.value_model.specs.declared.prop.Prop.{Prop}
use Rattle.value_model.specs.declared.prop.Prop.TheVariants.{Display, Width, Height, MinWidth, MinHeight, MaxWidth, MaxHeight, MarginTop, MarginRight, MarginBottom, MarginLeft, PaddingTop, PaddingRight, PaddingBottom, PaddingLeft, BorderTopWidth, BorderRightWidth, BorderBottomWidth, BorderLeftWidth, BorderTopStyle, BorderRightStyle, BorderBottomStyle, BorderLeftStyle, BorderTopColor, BorderRightColor, BorderBottomColor, BorderLeftColor, BoxSizing, FontSize, LineHeight, Color, BackgroundColor, TextAlign, WhiteSpace, Overflow, Contain, ContainerType, ContainerName, Visibility, Opacity, FontStyle, FontWeight, ZIndex, TextDecorationLine, PointerEvents}
use Rattle.cascade_model.specs.StyleEquation.{Given, bases_of, own_bases}

-- in all properties but `font-size` these are the element's own
pub other_bases : (g : Given) (p : Prop) → p ≢ FontSize → bases_of g p ≡ own_bases g
other_bases g Display other = refl
other_bases g Width other = refl
other_bases g Height other = refl
other_bases g MinWidth other = refl
other_bases g MinHeight other = refl
other_bases g MaxWidth other = refl
other_bases g MaxHeight other = refl
other_bases g MarginTop other = refl
other_bases g MarginRight other = refl
other_bases g MarginBottom other = refl
other_bases g MarginLeft other = refl
other_bases g PaddingTop other = refl
other_bases g PaddingRight other = refl
other_bases g PaddingBottom other = refl
other_bases g PaddingLeft other = refl
other_bases g BorderTopWidth other = refl
other_bases g BorderRightWidth other = refl
other_bases g BorderBottomWidth other = refl
other_bases g BorderLeftWidth other = refl
other_bases g BorderTopStyle other = refl
other_bases g BorderRightStyle other = refl
other_bases g BorderBottomStyle other = refl
other_bases g BorderLeftStyle other = refl
other_bases g BorderTopColor other = refl
other_bases g BorderRightColor other = refl
other_bases g BorderBottomColor other = refl
other_bases g BorderLeftColor other = refl
other_bases g BoxSizing other = refl
other_bases g FontSize other = absurd (other refl)
other_bases g LineHeight other = refl
other_bases g Color other = refl
other_bases g BackgroundColor other = refl
other_bases g TextAlign other = refl
other_bases g WhiteSpace other = refl
other_bases g Overflow other = refl
other_bases g Contain other = refl
other_bases g ContainerType other = refl
other_bases g ContainerName other = refl
other_bases g Visibility other = refl
other_bases g Opacity other = refl
other_bases g FontStyle other = refl
other_bases g FontWeight other = refl
other_bases g ZIndex other = refl
other_bases g TextDecorationLine other = refl
other_bases g PointerEvents other = refl
