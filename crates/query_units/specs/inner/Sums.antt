-- What was read of a sum, and what the items after it make of it.
use Rattle.std.specs.Prelude.{◌≡◌, ◌&&◌, not, if◌then◌else◌, List, [], ◌∷◌, filter, Option, Some, None, Bool, false, true}
use Rattle.std.specs.List.{fold}
use Rattle.value_model.specs.CalculationGrammar.{CalcValue, CalcItem, Operator, Pieces, pieces_at, is_product_operator, is_sign, is_white, joined_value, product_of, value_alone, are_signs_spaced, begins_white}
use Rattle.query_units.specs.inner.CalcValues.{calc_value_view, operator_view}
use Rattle.query_units.specs.declared.sums.Pending.{Pending}
use Rattle.query_units.specs.declared.sums.Product.{Product}
use Rattle.query_units.specs.declared.sums.Product.TheVariants.{Empty, Open, Whole, Invalid}
use Rattle.query_units.specs.declared.sums.Last.{Last}
use Rattle.query_units.specs.declared.sums.Last.TheVariants.{Other, White, Sign}
use Rattle.query_units.specs.declared.sums.Sum.{Sum}

-- a value with an operator after it, and then this value
abbrev pub pending_value : Pending → Option CalcValue → Option CalcValue
pending_value p v = joined_value (operator_view p.operator) (Some (calc_value_view p.value)) v

-- the value of factors and these items, without `*` and `/` in them
abbrev pub factor_after : Product → List CalcItem → Option CalcValue
factor_after Empty items = value_alone items
factor_after (Open p) items = pending_value p (value_alone items)
factor_after (Whole v) [] = Some (calc_value_view v)
factor_after (Whole v) (item ∷ items) = None
factor_after Invalid items = None

-- the value of a first one with the pieces after it, where `read` gives that of each
abbrev pub pieces_after : (List CalcItem → Option CalcValue) → Option CalcValue → List (Operator × List CalcItem)
    → Option CalcValue
pieces_after read v others = fold (λ v next. joined_value next.0 v (read next.1)) v others

-- the value of a product and these items after it
abbrev pub product_after : Product → List CalcItem → Option CalcValue
product_after product items =
    let p : Pieces = pieces_at is_product_operator items in
    pieces_after value_alone (factor_after product p.first) p.others

-- the value of terms and a last one
abbrev pub joined_to : Option Pending → Option CalcValue → Option CalcValue
joined_to None v = v
joined_to (Some p) v = pending_value p v

-- the value of terms, a last one and these items, without white space
abbrev pub terms_after : Option Pending → Product → List CalcItem → Option CalcValue
terms_after terms product items =
    let p : Pieces = pieces_at is_sign items in
    pieces_after product_of (joined_to terms (product_after product p.first)) p.others

-- each `+` and `-` stands between white space, the last one read too
abbrev pub are_spaced_after : Last → List CalcItem → Bool
are_spaced_after Other items = are_signs_spaced false items
are_spaced_after White items = are_signs_spaced true items
are_spaced_after Sign items = begins_white items && are_signs_spaced false items

abbrev pub without_white : List CalcItem → List CalcItem
without_white items = filter (λ item. not (is_white item)) items

-- the value of a sum and these items after it
unfoldable pub sum_after : Sum → List CalcItem → Option CalcValue
sum_after s items =
    if are_spaced_after s.last items then terms_after s.terms s.product (without_white items) else None

-- the value of a sum, then `+` or `-`, and these items after it
unfoldable pub after_sign : Option CalcValue → Operator → List CalcItem → Option CalcValue
after_sign v o items =
    if begins_white items && are_signs_spaced false items then
    (let p : Pieces = pieces_at is_sign (without_white items) in
    pieces_after product_of (joined_value o v (product_of p.first)) p.others)
    else None

-- one more item was taken into the sum
abbrev pub TakesItem : Sum → CalcItem → Sum → Type 0
TakesItem old item new = (items : List CalcItem) → sum_after new items ≡ sum_after old (item ∷ items)
