-- The limits of style sheets after one is put in or taken out.
use Rattle.std.proofs.Common.{Bool, List, None, Some, [], arith, drop, false, length, length-append, le-ltb, ltb-false, ltb-true, nat_lt, not, refl, suc, sym, take, true, zero, ℕ, ◌+◌, ◌++◌, ◌||◌, ◌∷◌, ◌≡◌, ◌≤◌, ◌<◌}
use Rattle.std.proofs.lemmas.Bool.{false≢true}
use Rattle.std.specs.List.{list_any}
use Rattle.page_laws.proofs.FirstOf.{both-false, first-false}
use Rattle.page_laws.proofs.Options.{or-false}
use Rattle.page_model.specs.Refusals.{first_of}
use Rattle.page_model.specs.Trees.{Text}
use Rattle.page_model.specs.declared.cause.Cause.TheVariants.{NoSheet, SheetLimit}
use Rattle.request_model.specs.States.{are_over_sheet_limits, is_over_sheet_limit, sheet_causes, sheets_with, sheets_without}
use Rattle.rules_model.specs.declared.limits.TheConstants.{MAX_SHEETS}

none-taken : (p : Text → Bool) (n : ℕ) (xs : List Text) → list_any p xs ≡ false → list_any p (take n xs) ≡ false
none-taken p zero xs h = refl
none-taken p (suc n) [] h = refl
none-taken p (suc n) (x ∷ xs) h =
    let parts = or-false (p x) (list_any p xs) h in
    both-false (p x) (list_any p (take n xs)) parts.0 (none-taken p n xs parts.1)

none-dropped : (p : Text → Bool) (n : ℕ) (xs : List Text) → list_any p xs ≡ false → list_any p (drop n xs) ≡ false
none-dropped p zero xs h = h
none-dropped p (suc n) [] h = refl
none-dropped p (suc n) (x ∷ xs) h = none-dropped p n xs (or-false (p x) (list_any p xs) h).1

none-joined : (p : Text → Bool) (xs ys : List Text) → list_any p xs ≡ false → list_any p ys ≡ false → list_any p (xs ++ ys) ≡ false
none-joined p [] ys h k = k
none-joined p (x ∷ xs) ys h k =
    let parts = or-false (p x) (list_any p xs) h in
    both-false (p x) (list_any p (xs ++ ys)) parts.0 (none-joined p xs ys parts.1 k)

taken-length : (n : ℕ) (xs : List Text) → length (take n xs) ≤ n
taken-length zero xs = omega arith
taken-length (suc n) [] = omega arith
taken-length (suc n) (x ∷ xs) = let rest = taken-length n xs in omega (arith, rest)

-- as many are left as there are behind
parts-length : (n : ℕ) (xs : List Text) → length (take n xs) + length (drop (suc n) xs) ≤ length xs
parts-length zero [] = omega arith
parts-length zero (x ∷ xs) = omega arith
parts-length (suc n) [] = omega arith
parts-length (suc n) (x ∷ xs) = let rest = parts-length n xs in omega (arith, rest)

-- one more fits where a place is left, or in place of one
with-length : (n : ℕ) (xs : List Text) (m : ℕ) → length xs ≤ m → n < m → length (take n xs) + suc (length (drop (suc n) xs)) ≤ m
with-length zero [] m h w = omega (arith, w)
with-length zero (x ∷ xs) m h w = omega (arith, h)
with-length (suc n) [] m h w = omega (arith, w)
with-length (suc n) (x ∷ xs) zero h w = absurd (omega (arith, w))
with-length (suc n) (x ∷ xs) (suc m) h w = let rest = with-length n xs m (omega (arith, h)) (omega (arith, w)) in omega (arith, rest)

not-false : (b : Bool) → not b ≡ false → b ≡ true
not-false true h = refl
not-false false h = absurd (false≢true (sym h))

within : (n m : ℕ) → not (nat_lt n m) ≡ false → n < m
within n m h = ltb-true n m (not-false (nat_lt n m) h)

pub kept-with : (at : ℕ) (css : Text) (sheets : List Text) → are_over_sheet_limits sheets ≡ false → first_of (sheet_causes at (Some css) sheets) ≡ None
    → are_over_sheet_limits (sheets_with at css sheets) ≡ false
kept-with at css sheets keeps none =
    let before = or-false (nat_lt MAX_SHEETS (length sheets)) (list_any is_over_sheet_limit sheets) keeps in
    let a = first-false (nat_lt (length sheets) at) NoSheet ((not (nat_lt at MAX_SHEETS) || is_over_sheet_limit css, SheetLimit) ∷ []) none in
    let b = first-false (not (nat_lt at MAX_SHEETS) || is_over_sheet_limit css) SheetLimit [] a.1 in
    let parts = or-false (not (nat_lt at MAX_SHEETS)) (is_over_sheet_limit css) b.0 in
    let front : List Text = take at sheets in
    let back : List Text = drop (suc at) sheets in
    let few : length sheets ≤ MAX_SHEETS = ltb-false MAX_SHEETS (length sheets) before.0 in
    let all = with-length at sheets MAX_SHEETS few (within at MAX_SHEETS parts.0) in
    both-false (nat_lt MAX_SHEETS (length (front ++ css ∷ back))) (list_any is_over_sheet_limit (front ++ css ∷ back))
    (le-ltb MAX_SHEETS (length (front ++ css ∷ back)) (omega (arith, all, length-append front (css ∷ back))))
    (none-joined is_over_sheet_limit front (css ∷ back) (none-taken is_over_sheet_limit at sheets before.1)
    (both-false (is_over_sheet_limit css) (list_any is_over_sheet_limit back) parts.1 (none-dropped is_over_sheet_limit (suc at) sheets before.1)))

pub kept-without : (at : ℕ) (sheets : List Text) → are_over_sheet_limits sheets ≡ false → are_over_sheet_limits (sheets_without at sheets) ≡ false
kept-without at sheets keeps =
    let before = or-false (nat_lt MAX_SHEETS (length sheets)) (list_any is_over_sheet_limit sheets) keeps in
    let front : List Text = take at sheets in
    let back : List Text = drop (suc at) sheets in
    let few : length sheets ≤ MAX_SHEETS = ltb-false MAX_SHEETS (length sheets) before.0 in
    let all = parts-length at sheets in
    both-false (nat_lt MAX_SHEETS (length (front ++ back))) (list_any is_over_sheet_limit (front ++ back))
    (le-ltb MAX_SHEETS (length (front ++ back)) (omega (arith, all, few, length-append front back)))
    (none-joined is_over_sheet_limit front back (none-taken is_over_sheet_limit at sheets before.1) (none-dropped is_over_sheet_limit (suc at) sheets before.1))
