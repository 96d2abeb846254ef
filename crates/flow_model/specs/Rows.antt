-- The seven values that stand side by side in a containing block (CSS 2.1, sections 10.3.3, 10.3.9 and 10.4). In the
-- equations they are integers of any size; each result is clamped afterwards.
use Rattle.std.specs.Prelude.{◌≡◌, ◌⊎◌, ℤ, pos, ◌+ℤ◌, ◌-ℤ◌, ◌≤ℤ◌, ◌<ℤ◌, int_lt, if◌then◌else◌, Option, Some, None, unwrap_or, Bool, true, false}
use Rattle.std.specs.Int.{int_min, int_max, int_div_euclid}
use Rattle.units64.specs.Limits.{clamped_units}
use Rattle.flow_model.specs.declared.row.Beside.{Beside}
use Rattle.flow_model.specs.declared.row.Row.{Row}
use Rattle.flow_model.specs.UsedLengths.{or_zero, not_below_zero}

-- all seven together
abbrev pub row_sum : Row → ℤ
row_sum row = row.margin_left +ℤ row.border_left +ℤ row.padding_left +ℤ row.width +ℤ row.padding_right
    +ℤ row.border_right +ℤ row.margin_right

-- borders and paddings together
abbrev pub edges : Beside → ℤ
edges s = s.border_left +ℤ s.padding_left +ℤ s.padding_right +ℤ s.border_right

-- a row with the borders and paddings that are specified
abbrev pub row_with : Beside → (left width right : ℤ) → Row
row_with s left width right = record {
  margin_left = left;
  border_left = s.border_left;
  padding_left = s.padding_left;
  width = width;
  padding_right = s.padding_right;
  border_right = s.border_right;
  margin_right = right;
}

-- ---- block boxes (section 10.3.3)

-- the parts other than `auto` margins are wider than the containing block
abbrev pub is_too_wide : (around : ℤ) → Beside → (width : ℤ) → Bool
is_too_wide around s width =
    int_lt around (or_zero s.margin_left +ℤ edges s +ℤ width +ℤ or_zero s.margin_right)

-- half of a number, rounded down
abbrev pub half : ℤ → ℤ
half n = int_div_euclid n (pos 2)

-- The left and the right margin, which are as wide together as `rest`: two that are `auto` are equal, one that is `auto`
-- follows, and where none is the right one is ignored.
abbrev pub margins_in : (rest : ℤ) → Option ℤ → Option ℤ → ℤ × ℤ
margins_in rest None None = (half rest, rest -ℤ half rest)
margins_in rest None (Some right) = (rest -ℤ right, right)
margins_in rest (Some left) right = (left, rest -ℤ left)

-- the margins beside a width that is not `auto`: where the parts are too wide, those that are `auto` are 0
abbrev pub margins_of_width : (around : ℤ) → Beside → (width : ℤ) → ℤ × ℤ
margins_of_width around s width =
    if is_too_wide around s width
    then margins_in (around -ℤ edges s -ℤ width) (Some (or_zero s.margin_left)) (Some (or_zero s.margin_right))
    else margins_in (around -ℤ edges s -ℤ width) s.margin_left s.margin_right

abbrev pub row_of_width : (around : ℤ) → Beside → (width : ℤ) → Row
row_of_width around s width =
    row_with s (margins_of_width around s width).0 width (margins_of_width around s width).1

-- what is left for a width that is `auto`
abbrev pub rest_for_width : (around : ℤ) → Beside → ℤ
rest_for_width around s = around -ℤ or_zero s.margin_left -ℤ edges s -ℤ or_zero s.margin_right

-- the right margin beside it: it follows where nothing is left
abbrev pub right_of_auto_width : (around : ℤ) → Beside → ℤ
right_of_auto_width around s =
    if int_lt (rest_for_width around s) (pos 0) then around -ℤ or_zero s.margin_left -ℤ edges s
    else or_zero s.margin_right

-- a width that is `auto` is what is left, and not below 0; margins that are `auto` are 0
abbrev pub row_of_auto_width : (around : ℤ) → Beside → Row
row_of_auto_width around s = row_with s (or_zero s.margin_left)
    (not_below_zero (rest_for_width around s)) (right_of_auto_width around s)

abbrev pub block_row : (around : ℤ) → Beside → Option ℤ → Row
block_row around s None = row_of_auto_width around s
block_row around s (Some width) = row_of_width around s width

-- ---- inline-blocks (section 10.3.9)

-- the shrink-to-fit width, where contents have this minimum and this preferred width
abbrev pub shrink_to_fit : (available : ℤ) → ℤ × ℤ → ℤ
shrink_to_fit available pair = int_min (int_max pair.0 available) pair.1

-- margins that are `auto` are 0
abbrev pub inline_block_row : (around : ℤ) → ℤ × ℤ → Beside → Option ℤ → Row
inline_block_row around pair s width = row_with s (or_zero s.margin_left)
    (unwrap_or width (shrink_to_fit (rest_for_width around s) pair)) (or_zero s.margin_right)

-- ---- limits

-- what follows from an equation is clamped to what a length may be
abbrev pub clamped_row : Row → Row
clamped_row row = record row {
  margin_left = clamped_units row.margin_left;
  width = clamped_units row.width;
  margin_right = clamped_units row.margin_right;
}

-- `row` gives the used values for a width. Where theirs is greater than `max-width`, they are those for it instead.
abbrev pub row_up_to : (Option ℤ → Row) → Option ℤ → Row → Row
row_up_to row None tentative = tentative
row_up_to row (Some most) tentative = if int_lt most tentative.width then row (Some most) else tentative

-- where it is then less than `min-width`, they are those for that
abbrev pub row_from : (Option ℤ → Row) → Option ℤ → Row → Row
row_from row None tentative = tentative
row_from row (Some least) tentative = if int_lt tentative.width least then row (Some least) else tentative

-- the used values for a width with its limits (section 10.4)
abbrev pub row_within : (Option ℤ → Row) → (width most least : Option ℤ) → Row
row_within row width most least = row_from row least (row_up_to row most (row width))

-- ---- the constraint of block boxes

-- the margins where the parts are not too wide; what is not said follows from the sum
abbrev pub AreAsSpecified : Option ℤ → Option ℤ → Row → Type 0
AreAsSpecified None None row =
    (row.margin_left ≤ℤ row.margin_right) × (row.margin_right ≤ℤ (row.margin_left +ℤ pos 1))
AreAsSpecified None (Some right) row = row.margin_right ≡ right
AreAsSpecified (Some left) right row = row.margin_left ≡ left

-- the margins beside a width that is not `auto`
abbrev pub AreMargins : (too_wide : Bool) → Beside → Row → Type 0
AreMargins true s row = row.margin_left ≡ or_zero s.margin_left
AreMargins false s row = AreAsSpecified s.margin_left s.margin_right row

-- a width that is `auto` is the rest, or is 0 and the right margin is smaller than specified
abbrev pub IsRest : Beside → Row → Type 0
IsRest s row = ((pos 0 ≤ℤ row.width) × (row.margin_right ≡ or_zero s.margin_right))
    ⊎ ((row.width ≡ pos 0) × (row.margin_right <ℤ or_zero s.margin_right))

-- what is said of a width and the margins beside it
abbrev pub FollowsWidth : (around : ℤ) → Beside → Option ℤ → Row → Type 0
FollowsWidth around s None row = (row.margin_left ≡ or_zero s.margin_left) × IsRest s row
FollowsWidth around s (Some width) row =
    (row.width ≡ width) × AreMargins (is_too_wide around s width) s row

-- The used values of a block box whose width is this: together they are as wide as the containing block, and each is as
-- specified where it does not follow from that.
pub record IsBlockRow (around : ℤ) (s : Beside) (width : Option ℤ) (row : Row) : Type 0 where
  pub sum : row_sum row ≡ around
  pub border_left : row.border_left ≡ s.border_left
  pub padding_left : row.padding_left ≡ s.padding_left
  pub padding_right : row.padding_right ≡ s.padding_right
  pub border_right : row.border_right ≡ s.border_right
  pub follows : FollowsWidth around s width row
