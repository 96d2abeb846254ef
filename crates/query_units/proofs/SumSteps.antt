-- One item more of a sum.
use Rattle.std.proofs.Common.{◌≡◌, ◌∙◌, ap, refl, sym, Bool, true, false, if◌then◌else◌, List, [], ◌∷◌, Option, Some, None}
use Rattle.value_model.specs.CalculationGrammar.{CalcValue, CalcItem, white, operator, value, Operator as GrammarOperator, multiply, divide, separate, Pieces, pieces_at, is_product_operator, is_sign, product_of, value_alone}
use Rattle.query_units.specs.inner.CalcValues.{calc_value_view, operator_view}
use Rattle.query_units.specs.inner.Sums.{factor_after, pieces_after, product_after, joined_to, pending_value, terms_after, without_white, are_spaced_after, sum_after, after_sign}
use Rattle.query_units.specs.declared.calc_value.CalcValue.{CalcValue as Value}
use Rattle.query_units.specs.declared.calc_value.Operator.{Operator}
use Rattle.query_units.specs.declared.calc_value.Operator.TheVariants.{Add, Subtract, Multiply, Divide, Separate}
use Rattle.query_units.specs.declared.sums.Pending.{Pending}
use Rattle.query_units.specs.declared.sums.Product.{Product}
use Rattle.query_units.specs.declared.sums.Product.TheVariants.{Empty, Open, Whole, Invalid}
use Rattle.query_units.specs.declared.sums.Last.{Last}
use Rattle.query_units.specs.declared.sums.Last.TheVariants.{Other, White, Sign}
use Rattle.query_units.specs.declared.sums.Sum.{Sum}

abbrev pub sum_of_parts : Option Pending → Product → Last → Sum
sum_of_parts terms product last = record { terms = terms; product = product; last = last }

-- ---- what has no value

either_none : (b : Bool) (x : Option CalcValue) → x ≡ None → (if b then x else None) ≡ None
either_none true x e = e
either_none false x e = refl

from_none : (read : List CalcItem → Option CalcValue) (others : List (GrammarOperator × List CalcItem))
    → pieces_after read None others ≡ None
from_none read [] = refl
from_none read (next ∷ others) = from_none read others

joined_none : (terms : Option Pending) → joined_to terms None ≡ None
joined_none None = refl
joined_none (Some p) = refl

terms_none : (terms : Option Pending) (first : Option CalcValue) (factors others : List (GrammarOperator × List CalcItem))
    → first ≡ None
    → pieces_after product_of (joined_to terms (pieces_after value_alone first factors)) others ≡ None
terms_none terms first factors others e =
    ap (λ x. pieces_after product_of (joined_to terms (pieces_after value_alone x factors)) others) e
    ∙ (ap (λ x. pieces_after product_of (joined_to terms x) others) (from_none value_alone factors)
    ∙ (ap (λ x. pieces_after product_of x others) (joined_none terms) ∙ from_none product_of others))

-- no sum begins with what is invalid
pub invalid_sum : (terms : Option Pending) (last : Last) (items : List CalcItem)
    → sum_after (sum_of_parts terms Invalid last) items ≡ None
unfolding sum_after
invalid_sum terms last items =
    let p : Pieces = pieces_at is_sign (without_white items) in
    either_none (are_spaced_after last items) (terms_after terms Invalid (without_white items))
    (terms_none terms None (pieces_at is_product_operator p.first).others p.others refl)

-- a component value that is none has no value
alone_none : (items : List CalcItem) → value_alone (value None ∷ items) ≡ None
alone_none [] = refl
alone_none (item ∷ items) = refl

factor_none : (product : Product) (items : List CalcItem) → factor_after product (value None ∷ items) ≡ None
factor_none Empty items = alone_none items
factor_none (Open p) items = ap (pending_value p) (alone_none items)
factor_none (Whole v) items = refl
factor_none Invalid items = refl

pub value_none : (terms : Option Pending) (product : Product) (last : Last) (items : List CalcItem)
    → sum_after (sum_of_parts terms product last) (value None ∷ items) ≡ None
unfolding sum_after
value_none terms product last items =
    let p : Pieces = pieces_at is_sign (without_white items) in
    let q : Pieces = pieces_at is_product_operator p.first in
    either_none (are_spaced_after last (value None ∷ items)) (terms_after terms product (value None ∷ without_white items))
    (terms_none terms (factor_after product (value None ∷ q.first)) q.others p.others (factor_none product q.first))

-- nor has what stands before or after a comma
factor_comma : (product : Product) (items : List CalcItem)
    → factor_after product (operator separate ∷ items) ≡ None
factor_comma Empty items = refl
factor_comma (Open p) items = refl
factor_comma (Whole v) items = refl
factor_comma Invalid items = refl

pub comma_none : (terms : Option Pending) (product : Product) (last : Last) (items : List CalcItem)
    → sum_after (sum_of_parts terms product last) (operator separate ∷ items) ≡ None
unfolding sum_after
comma_none terms product last items =
    let p : Pieces = pieces_at is_sign (without_white items) in
    let q : Pieces = pieces_at is_product_operator p.first in
    either_none (are_spaced_after last (operator separate ∷ items))
    (terms_after terms product (operator separate ∷ without_white items))
    (terms_none terms (factor_after product (operator separate ∷ q.first)) q.others p.others
    (factor_comma product q.first))

-- ---- white space

pub white_step : (terms : Option Pending) (product : Product) (last : Last) (items : List CalcItem)
    → sum_after (sum_of_parts terms product White) items
    ≡ sum_after (sum_of_parts terms product last) (white ∷ items)
unfolding sum_after
white_step terms product Other items = refl
white_step terms product White items = refl
white_step terms product Sign items = refl

-- ---- values

terms_value : (terms : Option Pending) (old new : Product) (v : Option CalcValue)
    → ((items : List CalcItem) → factor_after new items ≡ factor_after old (value v ∷ items))
    → (items : List CalcItem) → terms_after terms new items ≡ terms_after terms old (value v ∷ items)
terms_value terms old new v h items =
    let p : Pieces = pieces_at is_sign items in
    let q : Pieces = pieces_at is_product_operator p.first in
    ap (λ x. pieces_after product_of (joined_to terms (pieces_after value_alone x q.others)) p.others) (h q.first)

pub value_step : (terms : Option Pending) (old new : Product) (last : Last) (v : Option CalcValue)
    → (last ≡ Sign → ⊥)
    → ((items : List CalcItem) → factor_after new items ≡ factor_after old (value v ∷ items))
    → (items : List CalcItem) → sum_after (sum_of_parts terms new Other) items
    ≡ sum_after (sum_of_parts terms old last) (value v ∷ items)
unfolding sum_after
value_step terms old new Other v n h items =
    ap (λ x. if are_spaced_after Other items then x else None) (terms_value terms old new v h (without_white items))
value_step terms old new White v n h items =
    ap (λ x. if are_spaced_after Other items then x else None) (terms_value terms old new v h (without_white items))
value_step terms old new Sign v n h items = absurd (n refl)

-- a value after `+` or `-` without white space
pub value_after_sign : (terms : Option Pending) (product : Product) (last : Last) → last ≡ Sign
    → (v : Option CalcValue) (items : List CalcItem)
    → sum_after (sum_of_parts terms product last) (value v ∷ items) ≡ None
unfolding sum_after
value_after_sign terms product Sign e v items = refl
value_after_sign terms product Other e v items = cc
value_after_sign terms product White e v items = cc

-- ---- `*` and `/`

product_invalid : (items : List CalcItem) → product_after Invalid items ≡ None
product_invalid items = from_none value_alone (pieces_at is_product_operator items).others

pub operator_step : (v : Value) (o : Operator) → is_product_operator (operator_view o) ≡ true
    → (items : List CalcItem) → product_after (Open (record { value = v; operator = o })) items
    ≡ product_after (Whole v) (operator (operator_view o) ∷ items)
operator_step v Multiply t items = refl
operator_step v Divide t items = refl
operator_step v Add t items = cc
operator_step v Subtract t items = cc
operator_step v Separate t items = cc

no_factor : (old : Product) → factor_after old [] ≡ None → (o : Operator)
    → is_product_operator (operator_view o) ≡ true → (items : List CalcItem)
    → product_after Invalid items ≡ product_after old (operator (operator_view o) ∷ items)
no_factor old e Multiply t items =
    let q : Pieces = pieces_at is_product_operator items in
    product_invalid items ∙ sym (ap (λ x. pieces_after value_alone x ((multiply, q.first) ∷ q.others)) e
    ∙ from_none value_alone ((multiply, q.first) ∷ q.others))
no_factor old e Divide t items =
    let q : Pieces = pieces_at is_product_operator items in
    product_invalid items ∙ sym (ap (λ x. pieces_after value_alone x ((divide, q.first) ∷ q.others)) e
    ∙ from_none value_alone ((divide, q.first) ∷ q.others))
no_factor old e Add t items = cc
no_factor old e Subtract t items = cc
no_factor old e Separate t items = cc

pub operator_first : (o : Operator) → is_product_operator (operator_view o) ≡ true → (items : List CalcItem)
    → product_after Invalid items ≡ product_after Empty (operator (operator_view o) ∷ items)
operator_first = no_factor Empty refl

pub operator_twice : (p : Pending) (o : Operator) → is_product_operator (operator_view o) ≡ true
    → (items : List CalcItem)
    → product_after Invalid items ≡ product_after (Open p) (operator (operator_view o) ∷ items)
operator_twice p = no_factor (Open p) refl

pub operator_invalid : (o : Operator) → is_product_operator (operator_view o) ≡ true → (items : List CalcItem)
    → product_after Invalid items ≡ product_after Invalid (operator (operator_view o) ∷ items)
operator_invalid = no_factor Invalid refl

terms_factor : (terms : Option Pending) (old new : Product) (o : GrammarOperator) → is_sign o ≡ false
    → ((items : List CalcItem) → product_after new items ≡ product_after old (operator o ∷ items))
    → (items : List CalcItem) → terms_after terms new items ≡ terms_after terms old (operator o ∷ items)
terms_factor terms old new o n h items =
    let p : Pieces = pieces_at is_sign items in
    rw n (ap (λ x. pieces_after product_of (joined_to terms x) p.others) (h p.first))

pub factor_step : (terms : Option Pending) (old new : Product) (last : Last) (o : Operator)
    → is_product_operator (operator_view o) ≡ true → (last ≡ Sign → ⊥)
    → ((items : List CalcItem) → product_after new items ≡ product_after old (operator (operator_view o) ∷ items))
    → (items : List CalcItem) → sum_after (sum_of_parts terms new Other) items
    ≡ sum_after (sum_of_parts terms old last) (operator (operator_view o) ∷ items)
unfolding sum_after
factor_step terms old new Other Multiply t n h items =
    ap (λ x. if are_spaced_after Other items then x else None) (terms_factor terms old new multiply refl h (without_white items))
factor_step terms old new White Multiply t n h items =
    ap (λ x. if are_spaced_after Other items then x else None) (terms_factor terms old new multiply refl h (without_white items))
factor_step terms old new Other Divide t n h items =
    ap (λ x. if are_spaced_after Other items then x else None) (terms_factor terms old new divide refl h (without_white items))
factor_step terms old new White Divide t n h items =
    ap (λ x. if are_spaced_after Other items then x else None) (terms_factor terms old new divide refl h (without_white items))
factor_step terms old new Sign o t n h items = absurd (n refl)
factor_step terms old new last Add t n h items = cc
factor_step terms old new last Subtract t n h items = cc
factor_step terms old new last Separate t n h items = cc

-- an operator after `+` or `-` without white space
pub operator_after_sign : (terms : Option Pending) (product : Product) (last : Last) → last ≡ Sign
    → (o : GrammarOperator) (items : List CalcItem)
    → sum_after (sum_of_parts terms product last) (operator o ∷ items) ≡ None
unfolding sum_after
operator_after_sign terms product Sign e o items = refl
operator_after_sign terms product Other e o items = cc
operator_after_sign terms product White e o items = cc

-- ---- `+` and `-`

pub sign_step : (terms : Option Pending) (product : Product) (last : Last) → last ≡ White
    → (o : Operator) → is_sign (operator_view o) ≡ true
    → (items : List CalcItem) → sum_after (sum_of_parts terms product last) (operator (operator_view o) ∷ items)
    ≡ after_sign (joined_to terms (factor_after product [])) (operator_view o) items
unfolding sum_after after_sign
sign_step terms product White e Add t items = refl
sign_step terms product White e Subtract t items = refl
sign_step terms product White e Multiply t items = cc
sign_step terms product White e Divide t items = cc
sign_step terms product White e Separate t items = cc
sign_step terms product Other e o t items = cc
sign_step terms product Sign e o t items = cc

pub sign_unspaced : (terms : Option Pending) (product : Product) (last : Last) (o : Operator)
    → is_sign (operator_view o) ≡ true → (last ≡ White → ⊥) → (items : List CalcItem)
    → sum_after (sum_of_parts terms product last) (operator (operator_view o) ∷ items) ≡ None
unfolding sum_after
sign_unspaced terms product Other Add t n items = refl
sign_unspaced terms product Other Subtract t n items = refl
sign_unspaced terms product Sign o t n items = refl
sign_unspaced terms product White o t n items = absurd (n refl)
sign_unspaced terms product Other Multiply t n items = cc
sign_unspaced terms product Other Divide t n items = cc
sign_unspaced terms product Other Separate t n items = cc

pub opened_sum : (v : Value) (o : Operator) (items : List CalcItem)
    → sum_after (sum_of_parts (Some (record { value = v; operator = o })) Empty Sign) items
    ≡ after_sign (Some (calc_value_view v)) (operator_view o) items
unfolding sum_after after_sign
opened_sum v o items = refl

pub opened_none : (o : GrammarOperator) (items : List CalcItem) → after_sign None o items ≡ None
unfolding after_sign
opened_none o items =
    let p : Pieces = pieces_at is_sign (without_white items) in
    either_none (are_spaced_after Sign items) (pieces_after product_of None p.others)
    (from_none product_of p.others)

-- ---- nothing more

pub sum_ends : (terms : Option Pending) (product : Product) (last : Last) → (last ≡ Sign → ⊥)
    → sum_after (sum_of_parts terms product last) [] ≡ joined_to terms (factor_after product [])
unfolding sum_after
sum_ends terms product Other n = refl
sum_ends terms product White n = refl
sum_ends terms product Sign n = absurd (n refl)

pub sign_ends : (terms : Option Pending) (product : Product) (last : Last) → last ≡ Sign
    → sum_after (sum_of_parts terms product last) [] ≡ None
unfolding sum_after
sign_ends terms product Sign e = refl
sign_ends terms product Other e = cc
sign_ends terms product White e = cc
