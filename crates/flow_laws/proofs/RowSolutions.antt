-- The values of a block are the one solution of its constraint.
use Rattle.std.proofs.Common.{rules, arith, ◌∙◌, sym, ap, refl, subst, inl, inr}
use Rattle.std.specs.Prelude.{◌≡◌, ◌⊎◌, ℤ, pos, negsuc, ◌≤ℤ◌, ◌<ℤ◌, ◌+ℤ◌, ◌-ℤ◌, ◌*ℤ◌, int_lt, if◌then◌else◌, Option, Some, None, Bool, true, false}
use Rattle.std.specs.Int.{int_max, int_div_euclid}
use Rattle.std.proofs.lemmas.Int.{ints, clamps}
use Rattle.std.proofs.lemmas.Bool.{cases_Bool}
use Rattle.units64.specs.Limits.{clamped_units, FitsUnits}
use Rattle.value_model.specs.declared.prop.Prop.TheVariants.{Width, MinWidth, MaxWidth}
use Rattle.flow_model.specs.declared.containing.Containing.{Containing}
use Rattle.flow_model.specs.declared.row.Beside.{Beside}
use Rattle.flow_model.specs.declared.row.Row.{Row}
use Rattle.flow_model.specs.Rows.{IsBlockRow, AreMargins, AreAsSpecified, IsRest, FollowsWidth, block_row, edges, half, is_too_wide, margins_in, rest_for_width, row_sum, clamped_row, row_with, row_up_to, row_from, row_within, inline_block_row}
use Rattle.flow_model.specs.UsedLengths.{Values, or_zero, not_below_zero}
use Rattle.flow_model.specs.Widths.{beside, row_of, row_for, width_in}
use Rattle.flow_laws.specs.Fits.{Fits}

-- ---- halves

half-low : (n : ℤ) → (half n +ℤ half n) ≤ℤ n
half-low (pos n) = omega (arith, ints)
half-low (negsuc n) = omega (arith, ints)

half-high : (n : ℤ) → n ≤ℤ (half n +ℤ half n +ℤ pos 1)
half-high (pos n) = omega (arith, ints)
half-high (negsuc n) = omega (arith, ints)

-- ---- `auto` widths

less-than : (a b : ℤ) → int_lt a b ≡ true → a <ℤ b
less-than a b h = grind (arith, ints)

not-less : (a b : ℤ) → int_lt a b ≡ false → b ≤ℤ a
not-less a b h = grind (arith, ints)

is-less : (a b : ℤ) → a <ℤ b → int_lt a b ≡ true
is-less a b h = grind (arith, ints)

is-not-less : (a b : ℤ) → b ≤ℤ a → int_lt a b ≡ false
is-not-less a b h = grind (arith, ints)

-- a width and the right margin beside it, where so much is left
auto-sum : (left : Bool) (around l bl pl pr br r rest : ℤ) → rest ≡ around -ℤ l -ℤ (bl +ℤ pl +ℤ pr +ℤ br) -ℤ r → int_lt rest (pos 0) ≡ left
    → l +ℤ bl +ℤ pl +ℤ int_max (pos 0) rest +ℤ pr +ℤ br
    +ℤ (if left then around -ℤ l -ℤ (bl +ℤ pl +ℤ pr +ℤ br) else r) ≡ around
auto-sum true around l bl pl pr br r rest e h =
    let under = less-than rest (pos 0) h in
    omega (arith, ints, clamps)
auto-sum false around l bl pl pr br r rest e h =
    let over = not-less rest (pos 0) h in
    omega (arith, ints, clamps)

auto-rest : (left : Bool) (around l e r rest : ℤ) → rest ≡ around -ℤ l -ℤ e -ℤ r → int_lt rest (pos 0) ≡ left
    → ((pos 0 ≤ℤ int_max (pos 0) rest) × ((if left then around -ℤ l -ℤ e else r) ≡ r))
    ⊎ ((int_max (pos 0) rest ≡ pos 0) × ((if left then around -ℤ l -ℤ e else r) <ℤ r))
auto-rest true around l e r rest is h =
    let under = less-than rest (pos 0) h in
    inr (omega (arith, ints, clamps), omega (arith, ints))
auto-rest false around l e r rest is h =
    let over = not-less rest (pos 0) h in
    inl (omega (arith, ints, clamps), refl)

-- ---- margins beside a width

margins-sum : (rest : ℤ) (left right : Option ℤ) → (margins_in rest left right).0 +ℤ (margins_in rest left right).1 ≡ rest
margins-sum rest None None = omega (arith, ints)
margins-sum rest None (Some r) = omega (arith, ints)
margins-sum rest (Some l) right = omega (arith, ints)

row-sum : (around bl pl pr br w l r : ℤ) → l +ℤ r ≡ around -ℤ (bl +ℤ pl +ℤ pr +ℤ br) -ℤ w
    → l +ℤ bl +ℤ pl +ℤ w +ℤ pr +ℤ br +ℤ r ≡ around
row-sum around bl pl pr br w l r h = omega (arith, ints)

are-as-specified : (s : Beside) (w rest : ℤ) (left right : Option ℤ)
    → AreAsSpecified left right (row_with s (margins_in rest left right).0 w (margins_in rest left right).1)
are-as-specified s w rest None None =
    let low = half-low rest in
    let high = half-high rest in
    (omega (arith, ints), omega (arith, ints))
are-as-specified s w rest None (Some r) = refl
are-as-specified s w rest (Some l) right = refl

-- margins as they are found, where it is known whether the parts are too wide
abbrev found : Bool → ℤ → Beside → ℤ × ℤ
found wide rest s =
    if wide then margins_in rest (Some (or_zero s.margin_left)) (Some (or_zero s.margin_right))
    else margins_in rest s.margin_left s.margin_right

found-sum : (wide : Bool) (rest : ℤ) (s : Beside) → (found wide rest s).0 +ℤ (found wide rest s).1 ≡ rest
found-sum true rest s = margins-sum rest (Some (or_zero s.margin_left)) (Some (or_zero s.margin_right))
found-sum false rest s = margins-sum rest s.margin_left s.margin_right

found-margins : (wide : Bool) (rest : ℤ) (s : Beside) (w : ℤ)
    → AreMargins wide s (row_with s (found wide rest s).0 w (found wide rest s).1)
found-margins true rest s w = refl
found-margins false rest s w = are-as-specified s w rest s.margin_left s.margin_right

pub are-solutions : (around : ℤ) (b : Beside) (width : Option ℤ) → IsBlockRow around b width (block_row around b width)
are-solutions around b None = record {
  sum = auto-sum (int_lt (rest_for_width around b) (pos 0)) around (or_zero b.margin_left) b.border_left b.padding_left
      b.padding_right b.border_right (or_zero b.margin_right) (rest_for_width around b) refl refl;
  border_left = refl;
  padding_left = refl;
  padding_right = refl;
  border_right = refl;
  follows = (
    refl,
    auto-rest (int_lt (rest_for_width around b) (pos 0)) around (or_zero b.margin_left) (edges b)
        (or_zero b.margin_right) (rest_for_width around b) refl refl,
  );
}
are-solutions around b (Some w) =
    let wide = is_too_wide around b w in
    let rest = around -ℤ edges b -ℤ w in
    record {
      sum = row-sum around b.border_left b.padding_left b.padding_right b.border_right w (found wide rest b).0 (found wide rest b).1
          (found-sum wide rest b);
      border_left = refl;
      padding_left = refl;
      padding_right = refl;
      border_right = refl;
      follows = (refl, found-margins wide rest b w);
    }

-- ---- no others

rest-of-sum : (around l bl pl w pr br r : ℤ) → l +ℤ bl +ℤ pl +ℤ w +ℤ pr +ℤ br +ℤ r ≡ around
    → l +ℤ r ≡ around -ℤ (bl +ℤ pl +ℤ pr +ℤ br) -ℤ w
rest-of-sum around l bl pl w pr br r h = omega (arith, ints)

same-row : (x y : Row) → x.margin_left ≡ y.margin_left → x.border_left ≡ y.border_left → x.padding_left ≡ y.padding_left
    → x.width ≡ y.width → x.padding_right ≡ y.padding_right → x.border_right ≡ y.border_right → x.margin_right ≡ y.margin_right → x ≡ y
same-row x y a b c d e f g = λ j. record {
  margin_left = a j;
  border_left = b j;
  padding_left = c j;
  width = d j;
  padding_right = e j;
  border_right = f j;
  margin_right = g j;
}

unique-shared : (rest : ℤ) (left right : Option ℤ) (row : Row) → row.margin_left +ℤ row.margin_right ≡ rest → AreAsSpecified left right row
    → (row.margin_left ≡ (margins_in rest left right).0) × (row.margin_right ≡ (margins_in rest left right).1)
unique-shared rest None None row sum h =
    let low = half-low rest in
    let high = half-high rest in
    let below = h.0 in
    let above = h.1 in
    (omega (arith, ints), omega (arith, ints))
unique-shared rest None (Some r) row sum h = (omega (arith, ints), h)
unique-shared rest (Some l) right row sum h = (h, omega (arith, ints))

unique-margins : (wide : Bool) (rest : ℤ) (s : Beside) (row : Row) → row.margin_left +ℤ row.margin_right ≡ rest → AreMargins wide s row
    → (row.margin_left ≡ (found wide rest s).0) × (row.margin_right ≡ (found wide rest s).1)
unique-margins true rest s row sum h = (h, omega (arith, ints))
unique-margins false rest s row sum h = unique-shared rest s.margin_left s.margin_right row sum h

unique-rest : (left : Bool) (around l e r rest w mr : ℤ) → rest ≡ around -ℤ l -ℤ e -ℤ r → int_lt rest (pos 0) ≡ left
    → l +ℤ e +ℤ w +ℤ mr ≡ around
    → ((pos 0 ≤ℤ w) × (mr ≡ r)) ⊎ ((w ≡ pos 0) × (mr <ℤ r))
    → (w ≡ int_max (pos 0) rest) × (mr ≡ (if left then around -ℤ l -ℤ e else r))
unique-rest true around l e r rest w mr is h sum (inl p) =
    let under = less-than rest (pos 0) h in
    let over = p.0 in
    let same = p.1 in
    (omega (arith, ints, clamps), omega (arith, ints))
unique-rest true around l e r rest w mr is h sum (inr p) =
    let under = less-than rest (pos 0) h in
    let none = p.0 in
    (omega (arith, ints, clamps), omega (arith, ints))
unique-rest false around l e r rest w mr is h sum (inl p) =
    let over = not-less rest (pos 0) h in
    let same = p.1 in
    (omega (arith, ints, clamps), same)
unique-rest false around l e r rest w mr is h sum (inr p) =
    let over = not-less rest (pos 0) h in
    let none = p.0 in
    let less = p.1 in
    (omega (arith, ints, clamps), omega (arith, ints))

pub are-unique : (around : ℤ) (b : Beside) (width : Option ℤ) (row : Row) → IsBlockRow around b width row → row ≡ block_row around b width
are-unique around b None row h =
    let sum = h.sum in
    let bl = h.border_left in
    let pl = h.padding_left in
    let pr = h.padding_right in
    let br = h.border_right in
    let ml = h.follows.0 in
    let all : or_zero b.margin_left +ℤ edges b +ℤ row.width +ℤ row.margin_right ≡ around = omega (arith, ints) in
    let both = unique-rest (int_lt (rest_for_width around b) (pos 0)) around (or_zero b.margin_left) (edges b)
    (or_zero b.margin_right) (rest_for_width around b) row.width row.margin_right refl refl all h.follows.1 in
    same-row row (block_row around b None) ml bl pl both.0 pr br both.1
are-unique around b (Some w) row h =
    let sum = h.sum in
    let bl = h.border_left in
    let pl = h.padding_left in
    let pr = h.padding_right in
    let br = h.border_right in
    let width = h.follows.0 in
    let all : row.margin_left +ℤ row.margin_right ≡ around -ℤ edges b -ℤ w = omega (arith, ints) in
    let both = unique-margins (is_too_wide around b w) (around -ℤ edges b -ℤ w) b row all h.follows.1 in
    same-row row (block_row around b (Some w)) both.0 bl pl width pr br both.1

-- ---- the used values of a style

-- used values are those for some width
chosen-row : (row : Option ℤ → Row) (b : Bool) (v w : Option ℤ) → (x : Option ℤ) × ((if b then row v else row w) ≡ row x)
chosen-row row true v w = (v, refl)
chosen-row row false v w = (w, refl)

some-up_to : (row : Option ℤ → Row) (most width : Option ℤ) → (w : Option ℤ) × (row_up_to row most (row width) ≡ row w)
some-up_to row None width = (width, refl)
some-up_to row (Some most) width = chosen-row row (int_lt most (row width).width) (Some most) width

some-from : (row : Option ℤ → Row) (least width : Option ℤ) → (w : Option ℤ) × (row_from row least (row width) ≡ row w)
some-from row None width = (width, refl)
some-from row (Some least) width = chosen-row row (int_lt (row width).width least) (Some least) width

some-within : (row : Option ℤ → Row) (width most least : Option ℤ) → (w : Option ℤ) × (row_within row width most least ≡ row w)
some-within row width most least =
    let up = some-up_to row most width in
    let from = some-from row least up.0 in
    (from.0, ap (λ (r : Row). row_from row least r) up.1 ∙ from.1)

fits-unclamped : (n : ℤ) → FitsUnits n → clamped_units n ≡ n
fits-unclamped n h =
    let low = h.0 in
    let high = h.1 in
    omega (arith, ints, clamps)

clamped-sum : (row : Row) → Fits row → row_sum (clamped_row row) ≡ row_sum row
clamped-sum row h =
    let left = fits-unclamped row.margin_left h.left in
    let width = fits-unclamped row.width h.width in
    let right = fits-unclamped row.margin_right h.right in
    λ j. left j +ℤ row.border_left +ℤ row.padding_left +ℤ width j +ℤ row.padding_right +ℤ row.border_right +ℤ right j

block-row_for : (b : Bool) (x y : Row) → b ≡ false → clamped_row (if b then x else y) ≡ clamped_row y
block-row_for b x y h = ap (λ (c : Bool). clamped_row (if c then x else y)) h

pub fill : (c : Containing) (pair : ℤ × ℤ) (values : Values) → c.inline_block ≡ false
    → (width : Option ℤ) × (Fits (block_row c.w (beside c.w values) width) → row_sum (row_of c pair values) ≡ c.w)
fill c pair values h =
    let some = some-within (row_for c pair (beside c.w values)) (width_in c.w values Width) (width_in c.w values MaxWidth) (width_in c.w values MinWidth) in (
      some.0,
      λ fits.
          ap (λ (r : Row). row_sum r) (some.1 ∙ block-row_for c.inline_block (inline_block_row c.w pair (beside c.w values) some.0) (block_row c.w (beside c.w values) some.0) h)
          ∙ (clamped-sum (block_row c.w (beside c.w values) some.0) fits ∙ (are-solutions c.w (beside c.w values) some.0).sum),
    )
