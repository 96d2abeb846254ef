-- Computed values of one property have different texts.
use Rattle.std.proofs.Common.{◌≡◌, ◌∙◌, ap, sym, ℕ, ◌<◌, ◌^◌, ◌&&◌, ◌||◌, inl, inr, List, [], ◌∷◌, Bool, true, arith, nat_le}
use Rattle.std.specs.Prelude.{ℤ, pos, neg_ℤ, int_le, unsigned_abs}
use Rattle.std.proofs.lemmas.Bool.{and_parts, leb-true, or_cases, false≢true}
use Rattle.units64.specs.declared.constants.TheConstants.{MAX_UNITS}
use Rattle.value_model.specs.declared.color.Color.TheVariants.{CurrentColor, Rgba as AnRgba}
use Rattle.value_model.specs.declared.color.Rgba.{Rgba}
use Rattle.value_model.specs.declared.keyword.Keyword.{Keyword}
use Rattle.value_model.specs.declared.prop.Prop.{Prop}
use Rattle.value_model.specs.declared.prop.Prop.TheVariants.{Display, Width, Height, MinWidth, MinHeight, MaxWidth, MaxHeight, MarginTop, MarginRight, MarginBottom, MarginLeft, PaddingTop, PaddingRight, PaddingBottom, PaddingLeft, BorderTopWidth, BorderRightWidth, BorderBottomWidth, BorderLeftWidth, BorderTopStyle, BorderRightStyle, BorderBottomStyle, BorderLeftStyle, BorderTopColor, BorderRightColor, BorderBottomColor, BorderLeftColor, BoxSizing, FontSize, LineHeight, Color, BackgroundColor, TextAlign, WhiteSpace, Overflow, Contain, ContainerType, ContainerName, Visibility, Opacity, FontStyle, FontWeight, ZIndex, TextDecorationLine, PointerEvents}
use Rattle.value_model.specs.declared.keyword.Keyword.TheVariants.{Auto, None as NoneKeyword, Block, Inline, InlineBlock, FlowRoot, Hidden, ContentBox, BorderBox, Normal, Left, Right, Center, Nowrap, Visible, Scroll, InlineSize, Size, Collapse, Italic, Oblique, Underline, Overline, LineThrough}
use Rattle.value_model.specs.Properties.{line_styles}
use Rattle.value_model.specs.Calculations.{ComputedLength, leaf, in_units}
use Rattle.value_model.specs.Forms.{is_between}
use Rattle.value_model.specs.Values.{Final, keyword, length, number, alpha, integer, color, containment, names}
use Rattle.value_laws.specs.ComputedForms.{is_computed, is_one_of, is_absolute_length, is_length, is_number, is_alpha, is_integer_between, is_any_integer, is_rgba, is_color, is_any_color, is_containment, are_container_names}
use Rattle.reply_model.specs.ValueTexts.{final_text}
use Rattle.reply_laws.specs.ValueTexts.{HasShortNumbers, TellsValuesApart}
use Rattle.calculations_laws.specs.ComputedLengths.{is_units_from, are_units, is_mixed}
use Rattle.calculations_laws.proofs.Numerals.{short-between, short-units}
use Rattle.reply_laws.proofs.Quoted.{same-names}
use Rattle.reply_laws.proofs.ReadValues.{read_value, read-keyword, read-numeral, read-calculated, read-number, read-current, read-rgba, containment_of, read-containment}

-- ---- values that pass a test are read back

abbrev Reads : (List ℕ → Final) → (Final → Bool) → Type 0
Reads read test = (v : Final) → test v ≡ true → HasShortNumbers v → read (final_text v) ≡ v

apart : (read : List ℕ → Final) (p : Prop) → Reads read (is_computed p) → TellsValuesApart p
apart read p r a b ca cb sa sb e = sym (r a ca sa) ∙ (ap read e ∙ r b cb sb)

either : (read : List ℕ → Final) (first second : Final → Bool) → Reads read first → Reads read second
    → Reads read (λ v. first v || second v)
either read first second f g v h s = elim (or_cases (first v) (second v) h) [
  | inl x ↦ f v x s
  | inr y ↦ g v y s
]

-- what a numeral alone stands for
abbrev as_length : ℤ → Final
as_length n = length (leaf (in_units n))

abbrev units : List ℕ → Final
units = read_value as_length

abbrev alphas : List ℕ → Final
alphas = read_value (λ n. alpha n)

abbrev integers : List ℕ → Final
integers = read_value (λ n. integer n)

abbrev read_containment : List ℕ → Final
read_containment text = containment (containment_of text)

-- ---- keywords

words : (f : ℤ → Final) (ks : List Keyword) → Reads (read_value f) (is_one_of ks)
words f ks (keyword k) h s = read-keyword f k
words f ks v h s = absurd (false≢true h)

or-words : (f : ℤ → Final) (ks : List Keyword) (test : Final → Bool) → Reads (read_value f) test
    → Reads (read_value f) (λ v. is_one_of ks v || test v)
or-words f ks test r = either (read_value f) (is_one_of ks) test (words f ks) r

-- ---- numbers

units-from : (least n : ℤ) → unsigned_abs least < 10 ^ 64 → is_units_from least n ≡ true
    → units (final_text (as_length n)) ≡ as_length n
units-from least n short h = read-numeral as_length n (short-units least n short h)

between : (least greatest : ℕ) (n : ℤ) → least < 10 ^ 64 → greatest < 10 ^ 64
    → is_between least greatest n ≡ true → unsigned_abs n < 10 ^ 64
between least greatest n l g h =
    let both = and_parts (int_le (pos least) n) (int_le n (pos greatest)) h in
    short-between n (pos least) (pos greatest) l g both.0 both.1

absolute-lengths : Reads units is_absolute_length
absolute-lengths (length (leaf (in_units n))) h s = units-from (pos 0) n (omega arith) h
absolute-lengths v h s = absurd (false≢true h)

units-alone : (l : ComputedLength) → are_units l ≡ true → units (final_text (length l)) ≡ length l
units-alone (leaf (in_units n)) h = units-from (neg_ℤ MAX_UNITS) n (omega arith) h
units-alone l h = absurd (false≢true h)

lengths : Reads units is_length
lengths (length l) h s = elim (or_cases (are_units l) (is_mixed l) h) [
  | inl u ↦ units-alone l u
  | inr m ↦ read-calculated as_length l m s
]
lengths v h s = absurd (false≢true h)

numbers : Reads units is_number
numbers (number n) h s = read-number as_length n s
numbers v h s = absurd (false≢true h)

all-alphas : Reads alphas is_alpha
all-alphas (alpha n) h s =
    read-numeral (λ m. alpha m) n (between 0 1000000 n (omega arith) (omega arith) h)
all-alphas v h s = absurd (false≢true h)

any-integers : Reads integers is_any_integer
any-integers (integer n) h s = read-numeral (λ m. integer m) n s
any-integers v h s = absurd (false≢true h)

integers-between : (least greatest : ℕ) → Reads integers (is_integer_between least greatest)
integers-between least greatest (integer n) h s = read-numeral (λ m. integer m) n s
integers-between least greatest v h s = absurd (false≢true h)

-- ---- colours

rgba : (f : ℤ → Final) (c : Rgba) → is_rgba c ≡ true
    → read_value f (final_text (color (AnRgba c))) ≡ color (AnRgba c)
rgba f c h =
    let rest_alpha : Bool = nat_le c.alpha 255 && true in
    let rest_blue : Bool = nat_le c.blue 255 && rest_alpha in
    let rest_green : Bool = nat_le c.green 255 && rest_blue in
    let red = and_parts (nat_le c.red 255) rest_green h in
    let green = and_parts (nat_le c.green 255) rest_blue red.1 in
    let blue = and_parts (nat_le c.blue 255) rest_alpha green.1 in
    let last = and_parts (nat_le c.alpha 255) true blue.1 in
    read-rgba f c (omega (arith, leb-true c.red 255 red.0)) (omega (arith, leb-true c.green 255 green.0))
    (omega (arith, leb-true c.blue 255 blue.0)) (omega (arith, leb-true c.alpha 255 last.0))

colors : (f : ℤ → Final) → Reads (read_value f) is_color
colors f (color (AnRgba c)) h s = rgba f c h
colors f v h s = absurd (false≢true h)

any-colors : (f : ℤ → Final) → Reads (read_value f) is_any_color
any-colors f (color (AnRgba c)) h s = rgba f c h
any-colors f (color CurrentColor) h s = read-current f
any-colors f v h s = absurd (false≢true h)

-- ---- containment, and names

containments : Reads read_containment is_containment
containments (containment c) h s = ap (λ d. containment d) (read-containment c)
containments v h s = absurd (false≢true h)

same-named : (a b : Final) → are_container_names a ≡ true → are_container_names b ≡ true
    → final_text a ≡ final_text b → a ≡ b
same-named (names ns) (names ms) ca cb e = ap (λ xs. names xs) (same-names ns ms e)
same-named (names ns) b ca cb e = absurd (false≢true cb)
same-named a b ca cb e = absurd (false≢true ca)

-- ---- all properties

pub values-apart : (p : Prop) → TellsValuesApart p
values-apart Display = apart units Display
    (words as_length (Block ∷ Inline ∷ InlineBlock ∷ FlowRoot ∷ NoneKeyword ∷ []))
values-apart Width = apart units Width (or-words as_length (Auto ∷ []) is_length lengths)
values-apart Height = apart units Height (or-words as_length (Auto ∷ []) is_length lengths)
values-apart MinWidth = apart units MinWidth lengths
values-apart MinHeight = apart units MinHeight lengths
values-apart MaxWidth = apart units MaxWidth (or-words as_length (NoneKeyword ∷ []) is_length lengths)
values-apart MaxHeight = apart units MaxHeight (or-words as_length (NoneKeyword ∷ []) is_length lengths)
values-apart MarginTop = apart units MarginTop
    (or-words as_length (Auto ∷ []) is_length lengths)
values-apart MarginRight = apart units MarginRight
    (or-words as_length (Auto ∷ []) is_length lengths)
values-apart MarginBottom = apart units MarginBottom
    (or-words as_length (Auto ∷ []) is_length lengths)
values-apart MarginLeft = apart units MarginLeft
    (or-words as_length (Auto ∷ []) is_length lengths)
values-apart PaddingTop = apart units PaddingTop lengths
values-apart PaddingRight = apart units PaddingRight lengths
values-apart PaddingBottom = apart units PaddingBottom lengths
values-apart PaddingLeft = apart units PaddingLeft lengths
values-apart BorderTopWidth = apart units BorderTopWidth absolute-lengths
values-apart BorderRightWidth = apart units BorderRightWidth absolute-lengths
values-apart BorderBottomWidth = apart units BorderBottomWidth absolute-lengths
values-apart BorderLeftWidth = apart units BorderLeftWidth absolute-lengths
values-apart BorderTopStyle = apart units BorderTopStyle (words as_length line_styles)
values-apart BorderRightStyle = apart units BorderRightStyle (words as_length line_styles)
values-apart BorderBottomStyle = apart units BorderBottomStyle (words as_length line_styles)
values-apart BorderLeftStyle = apart units BorderLeftStyle (words as_length line_styles)
values-apart BorderTopColor = apart units BorderTopColor (any-colors as_length)
values-apart BorderRightColor = apart units BorderRightColor (any-colors as_length)
values-apart BorderBottomColor = apart units BorderBottomColor (any-colors as_length)
values-apart BorderLeftColor = apart units BorderLeftColor (any-colors as_length)
values-apart BoxSizing = apart units BoxSizing (words as_length (ContentBox ∷ BorderBox ∷ []))
values-apart FontSize = apart units FontSize absolute-lengths
values-apart LineHeight = apart units LineHeight
    (or-words as_length (Normal ∷ []) (λ v. is_number v || is_absolute_length v)
    (either units is_number is_absolute_length numbers absolute-lengths))
values-apart Color = apart units Color (colors as_length)
values-apart BackgroundColor = apart units BackgroundColor (any-colors as_length)
values-apart TextAlign = apart units TextAlign (words as_length (Left ∷ Right ∷ Center ∷ []))
values-apart WhiteSpace = apart units WhiteSpace (words as_length (Normal ∷ Nowrap ∷ []))
values-apart Overflow = apart units Overflow (words as_length (Visible ∷ Hidden ∷ Scroll ∷ Auto ∷ []))
values-apart Contain = apart read_containment Contain containments
values-apart ContainerType = apart units ContainerType (words as_length (Normal ∷ InlineSize ∷ Size ∷ []))
values-apart ContainerName = λ a b ca cb sa sb e. same-named a b ca cb e
values-apart Visibility = apart units Visibility (words as_length (Visible ∷ Hidden ∷ Collapse ∷ []))
values-apart Opacity = apart alphas Opacity all-alphas
values-apart FontStyle = apart units FontStyle (words as_length (Normal ∷ Italic ∷ Oblique ∷ []))
values-apart FontWeight = apart integers FontWeight (integers-between 1 1000)
values-apart ZIndex = apart integers ZIndex
    (or-words (λ n. integer n) (Auto ∷ []) is_any_integer any-integers)
values-apart TextDecorationLine = apart units TextDecorationLine
    (words as_length (NoneKeyword ∷ Underline ∷ Overline ∷ LineThrough ∷ []))
values-apart PointerEvents = apart units PointerEvents (words as_length (Auto ∷ NoneKeyword ∷ []))
