-- How rows are put together.
use Rattle.std.proofs.Common.{rules, arith, ◌∙◌, sym, ap, subst}
use Rattle.std.specs.Prelude.{◌≡◌, ℤ, int_lt, if◌then◌else◌, unwrap_or, Option, Some, Bool, true}
use Rattle.flow_model.specs.declared.row.Beside.{Beside}
use Rattle.flow_model.specs.declared.row.Row.{Row}
use Rattle.flow_model.specs.Rows.{clamped_row, inline_block_row, margins_of_width, rest_for_width, right_of_auto_width, row_from, row_of_auto_width, row_of_width, row_up_to, row_with, shrink_to_fit}
use Rattle.flow_model.specs.UsedLengths.{not_below_zero, or_zero}

pub row_for_width : (around : ℤ) (b : Beside) (width : ℤ) (margins : ℤ × ℤ) (w : ℤ) (row : Row)
    → margins ≡ margins_of_width around b width → w ≡ width → row ≡ clamped_row (row_with b margins.0 w margins.1)
    → row ≡ clamped_row (row_of_width around b width)
row_for_width around b width margins w row m e is = is ∙ λ j. clamped_row (row_with b (m j).0 (e j) (m j).1)

pub row_for_auto_width : (around : ℤ) (b : Beside) (left width right : ℤ) (row : Row)
    → left ≡ or_zero b.margin_left → width ≡ not_below_zero (rest_for_width around b) → right ≡ right_of_auto_width around b
    → row ≡ clamped_row (row_with b left width right) → row ≡ clamped_row (row_of_auto_width around b)
row_for_auto_width around b left width right row l w r is = is ∙ λ j. clamped_row (row_with b (l j) (w j) (r j))

pub row_for_inline_block : (around : ℤ) (pair : ℤ × ℤ) (b : Beside) (specified : Option ℤ) (left width right : ℤ) (row : Row)
    → left ≡ or_zero b.margin_left → width ≡ unwrap_or specified (shrink_to_fit (rest_for_width around b) pair)
    → right ≡ or_zero b.margin_right
    → row ≡ clamped_row (row_with b left width right) → row ≡ clamped_row (inline_block_row around pair b specified)
row_for_inline_block around pair b specified left width right row l w r is =
    is ∙ λ j. clamped_row (row_with b (l j) (w j) (r j))

pub row_for_most : (f : Option ℤ → Row) (limit : Option ℤ) (most : ℤ) (tentative row : Row)
    → limit ≡ Some most → int_lt most tentative.width ≡ true → row ≡ f (Some most) → row ≡ row_up_to f limit tentative
row_for_most f limit most tentative row e less is =
    is ∙ (ap (λ (b : Bool). if b then f (Some most) else tentative) (sym less) ∙ ap (λ (l : Option ℤ). row_up_to f l tentative) (sym e))

pub row_for_least : (f : Option ℤ → Row) (limit : Option ℤ) (least : ℤ) (tentative row : Row)
    → limit ≡ Some least → int_lt tentative.width least ≡ true → row ≡ f (Some least) → row ≡ row_from f limit tentative
row_for_least f limit least tentative row e less is =
    is ∙ (ap (λ (b : Bool). if b then f (Some least) else tentative) (sym less) ∙ ap (λ (l : Option ℤ). row_from f l tentative) (sym e))
