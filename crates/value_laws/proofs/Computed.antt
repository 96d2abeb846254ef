-- What a property's grammar takes computes to one of the property's computed values.
use Rattle.std.proofs.Common.{◌≡◌, refl, ◌||◌, not, [], ◌∷◌, Bool, true, false, arith}
use Rattle.std.specs.Prelude.{ℤ, pos, int_le, ◌≤ℤ◌}
use Rattle.std.specs.Int.{int_min, int_max}
use Rattle.std.proofs.lemmas.Int.{ints, clamps}
use Rattle.value_model.specs.declared.keyword.Keyword.{Keyword}
use Rattle.value_model.specs.declared.keyword.Keyword.TheVariants.{Thin, Medium, Thick, Bold, Left, Right, Center, Start, End}
use Rattle.value_model.specs.declared.length_unit.Bases.{Bases}
use Rattle.value_model.specs.declared.prop.Prop.{Prop}
use Rattle.value_model.specs.declared.prop.Prop.TheVariants.{Display, Width, Height, MinWidth, MinHeight, MaxWidth, MaxHeight, MarginTop, MarginRight, MarginBottom, MarginLeft, PaddingTop, PaddingRight, PaddingBottom, PaddingLeft, BorderTopWidth, BorderRightWidth, BorderBottomWidth, BorderLeftWidth, BorderTopStyle, BorderRightStyle, BorderBottomStyle, BorderLeftStyle, BorderTopColor, BorderRightColor, BorderBottomColor, BorderLeftColor, BoxSizing, FontSize, LineHeight, Color, BackgroundColor, TextAlign, WhiteSpace, Overflow, Contain, ContainerType, ContainerName, Visibility, Opacity, FontStyle, FontWeight, ZIndex, TextDecorationLine, PointerEvents}
use Rattle.value_model.specs.Computing.{border_width, alignment, weight}
use Rattle.value_model.specs.Properties.{property}
use Rattle.value_model.specs.Values.{alpha}
use Rattle.value_laws.specs.ComputedForms.{is_among, is_one_of, is_absolute_length, is_alpha, is_integer_between, is_computed, Computes}
use Rattle.calculations_laws.proofs.Lengths.{any-length, from-zero}
use Rattle.value_laws.proofs.Values.{OfForms}

-- ---- what computes to something else

width-computed : (k : Keyword) → is_among (Thin ∷ Medium ∷ Thick ∷ []) k ≡ true
    → is_absolute_length (border_width k) ≡ true
width-computed Thin h = refl
width-computed Medium h = refl
width-computed Thick h = refl
width-computed k h = (cc)

alignment-computed : (k : Keyword) → is_among (Left ∷ Right ∷ Center ∷ Start ∷ End ∷ []) k ≡ true
    → is_one_of (Left ∷ Right ∷ Center ∷ []) (alignment k) ≡ true
alignment-computed Left h = refl
alignment-computed Right h = refl
alignment-computed Center h = refl
alignment-computed Start h = refl
alignment-computed End h = refl
alignment-computed k h = (cc)

weight-computed : (k : Keyword) → is_integer_between 1 1000 (weight k) ≡ true
weight-computed Bold = refl
weight-computed k = refl

tested : (n : ℤ) → pos 0 ≤ℤ n → int_le (pos 0) n ≡ true
tested n h = grind (arith, ints)

above-zero : (n : ℤ) → int_le (pos 0) (int_max (pos 0) n) ≡ true
above-zero n = tested (int_max (pos 0) n) (omega (arith, ints, clamps))

below-one : (n : ℤ) → int_le (int_max (pos 0) (int_min (pos 1000000) n)) (pos 1000000) ≡ true
below-one n = at-most (int_max (pos 0) (int_min (pos 1000000) n)) (omega (arith, ints, clamps))
  where
    at-most : (n : ℤ) → n ≤ℤ pos 1000000 → int_le n (pos 1000000) ≡ true
    at-most n h = grind (arith, ints)

alpha-computed : (n : ℤ) → is_alpha (alpha (int_max (pos 0) (int_min (pos 1000000) n))) ≡ true
alpha-computed n = rw (above-zero (int_min (pos 1000000) n), below-one n) refl

-- ---- all properties

first : (a b : Bool) → a ≡ true → (a || b) ≡ true
first true b h = refl
first false b h = (cc)

flipped : (a : Bool) → a ≡ false → not a ≡ true
flipped true h = (cc)
flipped false h = refl

pub computes-forms : (p : Prop) (b : Bases) (parent_font : ℤ)
    → OfForms (property p).forms (Computes b parent_font p)
computes-forms Display b parent_font = (λ k m _. m, tt)
computes-forms Width b parent_font =
    (λ k m _. first _ false m, (λ l _. any-length b l, tt))
computes-forms Height b parent_font =
    (λ k m _. first _ false m, (λ l _. any-length b l, tt))
computes-forms MinWidth b parent_font = (λ k m _. refl, (λ l _. any-length b l, tt))
computes-forms MinHeight b parent_font = (λ k m _. refl, (λ l _. any-length b l, tt))
computes-forms MaxWidth b parent_font =
    (λ k m _. first _ false m, (λ l _. any-length b l, tt))
computes-forms MaxHeight b parent_font =
    (λ k m _. first _ false m, (λ l _. any-length b l, tt))
computes-forms MarginTop b parent_font = (λ k m _. first _ false m, (λ l _. any-length b l, tt))
computes-forms MarginRight b parent_font = (λ k m _. first _ false m, (λ l _. any-length b l, tt))
computes-forms MarginBottom b parent_font =
    (λ k m _. first _ false m, (λ l _. any-length b l, tt))
computes-forms MarginLeft b parent_font = (λ k m _. first _ false m, (λ l _. any-length b l, tt))
computes-forms PaddingTop b parent_font = (λ l _. any-length b l, tt)
computes-forms PaddingRight b parent_font = (λ l _. any-length b l, tt)
computes-forms PaddingBottom b parent_font = (λ l _. any-length b l, tt)
computes-forms PaddingLeft b parent_font = (λ l _. any-length b l, tt)
computes-forms BorderTopWidth b parent_font =
    (λ k m _. width-computed k m, (λ l _. from-zero b (pos 0) l, tt))
computes-forms BorderRightWidth b parent_font =
    (λ k m _. width-computed k m, (λ l _. from-zero b (pos 0) l, tt))
computes-forms BorderBottomWidth b parent_font =
    (λ k m _. width-computed k m, (λ l _. from-zero b (pos 0) l, tt))
computes-forms BorderLeftWidth b parent_font =
    (λ k m _. width-computed k m, (λ l _. from-zero b (pos 0) l, tt))
computes-forms BorderTopStyle b parent_font = (λ k m _. m, tt)
computes-forms BorderRightStyle b parent_font = (λ k m _. m, tt)
computes-forms BorderBottomStyle b parent_font = (λ k m _. m, tt)
computes-forms BorderLeftStyle b parent_font = (λ k m _. m, tt)
computes-forms BorderTopColor b parent_font = ((λ _. refl, λ c m _. m), tt)
computes-forms BorderRightColor b parent_font = ((λ _. refl, λ c m _. m), tt)
computes-forms BorderBottomColor b parent_font = ((λ _. refl, λ c m _. m), tt)
computes-forms BorderLeftColor b parent_font = ((λ _. refl, λ c m _. m), tt)
computes-forms BoxSizing b parent_font = (λ k m _. m, tt)
computes-forms FontSize b parent_font =
    (λ k m _. refl, (λ l _. from-zero b parent_font l, tt))
computes-forms LineHeight b parent_font = (
  λ k m _. first _ false m,
  (λ n m _. first _ false m, (λ l _. from-zero b b.em l, tt)),
)
computes-forms Color b parent_font = ((λ n. (cc), λ c m _. m), tt)
computes-forms BackgroundColor b parent_font = ((λ _. refl, λ c m _. m), tt)
computes-forms TextAlign b parent_font = (λ k m _. alignment-computed k m, tt)
computes-forms WhiteSpace b parent_font = (λ k m _. m, tt)
computes-forms Overflow b parent_font = (λ k m _. m, tt)
computes-forms Contain b parent_font = (λ c m _. flipped _ m, tt)
computes-forms ContainerType b parent_font = (λ k m _. m, tt)
computes-forms ContainerName b parent_font = (λ ns m _. m, tt)
computes-forms Visibility b parent_font = (λ k m _. m, tt)
computes-forms Opacity b parent_font = (λ n _. alpha-computed n, tt)
computes-forms FontStyle b parent_font = (λ k m _. m, tt)
computes-forms FontWeight b parent_font = (λ k m _. weight-computed k, (λ n m _. m, tt))
computes-forms ZIndex b parent_font = (λ k m _. first _ false m, (λ n _. refl, tt))
computes-forms TextDecorationLine b parent_font = (λ k m _. m, tt)
computes-forms PointerEvents b parent_font = (λ k m _. m, tt)

pub initial-computed : (p : Prop) → is_computed p (property p).initial ≡ true
initial-computed Display = refl
initial-computed Width = refl
initial-computed Height = refl
initial-computed MinWidth = refl
initial-computed MinHeight = refl
initial-computed MaxWidth = refl
initial-computed MaxHeight = refl
initial-computed MarginTop = refl
initial-computed MarginRight = refl
initial-computed MarginBottom = refl
initial-computed MarginLeft = refl
initial-computed PaddingTop = refl
initial-computed PaddingRight = refl
initial-computed PaddingBottom = refl
initial-computed PaddingLeft = refl
initial-computed BorderTopWidth = refl
initial-computed BorderRightWidth = refl
initial-computed BorderBottomWidth = refl
initial-computed BorderLeftWidth = refl
initial-computed BorderTopStyle = refl
initial-computed BorderRightStyle = refl
initial-computed BorderBottomStyle = refl
initial-computed BorderLeftStyle = refl
initial-computed BorderTopColor = refl
initial-computed BorderRightColor = refl
initial-computed BorderBottomColor = refl
initial-computed BorderLeftColor = refl
initial-computed BoxSizing = refl
initial-computed FontSize = refl
initial-computed LineHeight = refl
initial-computed Color = refl
initial-computed BackgroundColor = refl
initial-computed TextAlign = refl
initial-computed WhiteSpace = refl
initial-computed Overflow = refl
initial-computed Contain = refl
initial-computed ContainerType = refl
initial-computed ContainerName = refl
initial-computed Visibility = refl
initial-computed Opacity = refl
initial-computed FontStyle = refl
initial-computed FontWeight = refl
initial-computed ZIndex = refl
initial-computed TextDecorationLine = refl
initial-computed PointerEvents = refl
