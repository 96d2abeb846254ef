-- Names in order, and one more at the end.
use Rattle.std.proofs.Common.{◌≡◌, ◌∙◌, ◌-◌, ◌≤◌, ap, sym, refl, arith, length, take, get_or, Result, Ok, Err, OnOk, OnErr, ◌&&◌, List, [], ◌∷◌, ◌++◌, Bool, true, false}
use Rattle.std.proofs.lemmas.List.{map-append}
use Rattle.css_model.specs.Classes.{Text}
use Rattle.css_model.specs.Components.{Components}
use Rattle.page_model.specs.Attributes.{is_less_text}
use Rattle.page_laws.proofs.AttributesInOrder.{less-then-less}
use Rattle.page_laws.proofs.Options.{both-true}
use Rattle.custom_model.specs.NamedValues.{NamedValues, are_in_order, names_of}
use Rattle.custom_laws.proofs.Ordered.{leads, order-cons, order-leads, order-tail}
use Rattle.custom_props.specs.Order.{are_before}
use Rattle.custom_props.specs.Views.{value_view, values_view}
use Rattle.custom_props.specs.declared.named_value.NamedValue.{NamedValue}

and-true : (a : Bool) → (a && true) ≡ a
and-true true = refl
and-true false = refl

-- the last decides, where each before it is less than it
by-last : (a b c : Bool) → (c ≡ true → a ≡ true) → b ≡ c → (a && b) ≡ c
by-last a b true h e = rw (h refl, e) refl
by-last true b false h e = e
by-last false b false h e = refl

-- the first is less than the last
less-last : (n : Text) (values : NamedValues) (v : Text × Components)
    → are_in_order (n ∷ names_of (values ++ v ∷ [])) ≡ true → is_less_text n v.0 ≡ true
less-last n [] v o = order-leads n (v.0 ∷ []) o
less-last n (w ∷ values) v o =
    less-then-less n w.0 v.0 (order-leads n (w.0 ∷ names_of (values ++ v ∷ [])) o)
    (less-last w.0 values v (order-tail n (w.0 ∷ names_of (values ++ v ∷ [])) o))

before-last : (name : Text) (values : NamedValues) (v : Text × Components)
    → are_in_order (names_of (values ++ v ∷ [])) ≡ true
    → are_before name (values ++ v ∷ []) ≡ is_less_text v.0 name
before-last name [] v o = and-true (is_less_text v.0 name)
before-last name (w ∷ values) v o =
    by-last (is_less_text w.0 name) (are_before name (values ++ v ∷ [])) (is_less_text v.0 name)
    (λ h. less-then-less w.0 v.0 name (less-last w.0 values v o) h)
    (before-last name values v (order-tail w.0 (names_of (values ++ v ∷ [])) o))

-- the last of a list
pub is_before_last : (name : Text) (values front : List NamedValue) (last : NamedValue) → values ≡ front ++ last ∷ []
    → are_in_order (names_of (values_view values)) ≡ true
    → is_less_text last.name name ≡ are_before name (values_view values)
is_before_last name values front last e o =
    let split : values_view values ≡ values_view front ++ value_view last ∷ [] =
    ap values_view e ∙ map-append value_view front (last ∷ []) in
    sym (ap (are_before name) split
    ∙ before-last name (values_view front) (value_view last)
    (ap (λ vs. are_in_order (names_of vs)) (sym split) ∙ o))

-- a name that is more than all may stand at the end
leads-last : (n name : Text) (value : Components) (vs : NamedValues) → are_in_order (n ∷ names_of vs) ≡ true
    → is_less_text n name ≡ true → leads n (names_of (vs ++ (name, value) ∷ [])) ≡ true
leads-last n name value [] o l = l
leads-last n name value (w ∷ vs) o l = order-leads n (w.0 ∷ names_of vs) o

order-last : (name : Text) (value : Components) (values : NamedValues) → are_in_order (names_of values) ≡ true
    → are_before name values ≡ true → are_in_order (names_of (values ++ (name, value) ∷ [])) ≡ true
order-last name value [] o b = refl
order-last name value (v ∷ values) o b =
    let parts = both-true (is_less_text v.0 name) (are_before name values) b in
    order-cons v.0 (names_of (values ++ (name, value) ∷ [])) (leads-last v.0 name value values o parts.0)
    (order-last name value values (order-tail v.0 (names_of values) o) parts.1)

pub order_with_last : (values all : List NamedValue) (v : NamedValue) → all ≡ values ++ v ∷ []
    → are_in_order (names_of (values_view values)) ≡ true
    → are_before v.name (values_view values) ≡ true
    → are_in_order (names_of (values_view all)) ≡ true
order_with_last values all v e o b =
    ap (λ vs. are_in_order (names_of vs)) (ap values_view e ∙ map-append value_view values (v ∷ []))
    ∙ order-last v.name (value_view v).1 (values_view values) o b

pub order_after_push : {X E : Type 0} (r : Result X E) (old new : List NamedValue) (v : NamedValue)
    → OnOk r (new ≡ old ++ v ∷ []) → OnErr r (new ≡ old)
    → are_in_order (names_of (values_view old)) ≡ true → are_before v.name (values_view old) ≡ true
    → are_in_order (names_of (values_view new)) ≡ true
order_after_push (Ok x) old new v ok err o b = order_with_last old new v ok o b
order_after_push (Err e) old new v ok err o b = ap (λ vs. are_in_order (names_of (values_view vs))) err ∙ o

last-split : (v : NamedValue) (values : List NamedValue) (d : NamedValue)
    → v ∷ values ≡ take (length values) (v ∷ values) ++ get_or (v ∷ values) (length values) d ∷ []
last-split v [] d = refl
last-split v (w ∷ values) d = ap (λ l. v ∷ l) (last-split w values d)

pub is_before_last_at : (name : Text) (values : List NamedValue) (d : NamedValue) → 1 ≤ length values
    → are_in_order (names_of (values_view values)) ≡ true
    → is_less_text (get_or values (length values - 1) d).name name ≡ are_before name (values_view values)
is_before_last_at name [] d l o = absurd (omega (arith, l))
is_before_last_at name (v ∷ values) d l o =
    let e : length (v ∷ values) - 1 ≡ length values = omega arith in
    ap (λ n. is_less_text (get_or (v ∷ values) n d).name name) e
    ∙ is_before_last name (v ∷ values) (take (length values) (v ∷ values)) (get_or (v ∷ values) (length values) d)
    (last-split v values d) o
