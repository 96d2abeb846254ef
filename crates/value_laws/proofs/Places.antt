-- The places of properties.
use Rattle.std.proofs.Common.{◌≡◌, ◌∙◌, ap, sym, refl, true}
use Rattle.std.specs.Prelude.{Some, unwrap_or}
use Rattle.std.specs.List.{slice_get}
use Rattle.std.proofs.lemmas.Bool.{eqb-true}
use Rattle.value_model.specs.declared.prop.Prop.{Prop}
use Rattle.value_model.specs.declared.prop.Prop.TheVariants.{Display, Width, Height, MinWidth, MinHeight, MaxWidth, MaxHeight, MarginTop, MarginRight, MarginBottom, MarginLeft, PaddingTop, PaddingRight, PaddingBottom, PaddingLeft, BorderTopWidth, BorderRightWidth, BorderBottomWidth, BorderLeftWidth, BorderTopStyle, BorderRightStyle, BorderBottomStyle, BorderLeftStyle, BorderTopColor, BorderRightColor, BorderBottomColor, BorderLeftColor, BoxSizing, FontSize, LineHeight, Color, BackgroundColor, TextAlign, WhiteSpace, Overflow, Contain, ContainerType, ContainerName, Visibility, Opacity, FontStyle, FontWeight, ZIndex, TextDecorationLine, PointerEvents}
use Rattle.value_model.specs.Properties.{properties, prop_place, is_same_prop}

-- each property stands in its place
pub in-place : (p : Prop) → slice_get properties (prop_place p) ≡ Some p
in-place Display = refl
in-place Width = refl
in-place Height = refl
in-place MinWidth = refl
in-place MinHeight = refl
in-place MaxWidth = refl
in-place MaxHeight = refl
in-place MarginTop = refl
in-place MarginRight = refl
in-place MarginBottom = refl
in-place MarginLeft = refl
in-place PaddingTop = refl
in-place PaddingRight = refl
in-place PaddingBottom = refl
in-place PaddingLeft = refl
in-place BorderTopWidth = refl
in-place BorderRightWidth = refl
in-place BorderBottomWidth = refl
in-place BorderLeftWidth = refl
in-place BorderTopStyle = refl
in-place BorderRightStyle = refl
in-place BorderBottomStyle = refl
in-place BorderLeftStyle = refl
in-place BorderTopColor = refl
in-place BorderRightColor = refl
in-place BorderBottomColor = refl
in-place BorderLeftColor = refl
in-place BoxSizing = refl
in-place FontSize = refl
in-place LineHeight = refl
in-place Color = refl
in-place BackgroundColor = refl
in-place TextAlign = refl
in-place WhiteSpace = refl
in-place Overflow = refl
in-place Contain = refl
in-place ContainerType = refl
in-place ContainerName = refl
in-place Visibility = refl
in-place Opacity = refl
in-place FontStyle = refl
in-place FontWeight = refl
in-place ZIndex = refl
in-place TextDecorationLine = refl
in-place PointerEvents = refl

pub same-itself : (p : Prop) → is_same_prop p p ≡ true
same-itself Display = refl
same-itself Width = refl
same-itself Height = refl
same-itself MinWidth = refl
same-itself MinHeight = refl
same-itself MaxWidth = refl
same-itself MaxHeight = refl
same-itself MarginTop = refl
same-itself MarginRight = refl
same-itself MarginBottom = refl
same-itself MarginLeft = refl
same-itself PaddingTop = refl
same-itself PaddingRight = refl
same-itself PaddingBottom = refl
same-itself PaddingLeft = refl
same-itself BorderTopWidth = refl
same-itself BorderRightWidth = refl
same-itself BorderBottomWidth = refl
same-itself BorderLeftWidth = refl
same-itself BorderTopStyle = refl
same-itself BorderRightStyle = refl
same-itself BorderBottomStyle = refl
same-itself BorderLeftStyle = refl
same-itself BorderTopColor = refl
same-itself BorderRightColor = refl
same-itself BorderBottomColor = refl
same-itself BorderLeftColor = refl
same-itself BoxSizing = refl
same-itself FontSize = refl
same-itself LineHeight = refl
same-itself Color = refl
same-itself BackgroundColor = refl
same-itself TextAlign = refl
same-itself WhiteSpace = refl
same-itself Overflow = refl
same-itself Contain = refl
same-itself ContainerType = refl
same-itself ContainerName = refl
same-itself Visibility = refl
same-itself Opacity = refl
same-itself FontStyle = refl
same-itself FontWeight = refl
same-itself ZIndex = refl
same-itself TextDecorationLine = refl
same-itself PointerEvents = refl

-- properties in one place are one
pub same-is : (p q : Prop) → is_same_prop p q ≡ true → p ≡ q
same-is p q h =
    ap (λ o. unwrap_or o p)
    (sym (in-place p) ∙ (ap (slice_get properties) (eqb-true (prop_place p) (prop_place q) h) ∙ in-place q))

pub is-same : (p q : Prop) → p ≡ q → is_same_prop p q ≡ true
is-same p q e = ap (is_same_prop p) (sym e) ∙ same-itself p
