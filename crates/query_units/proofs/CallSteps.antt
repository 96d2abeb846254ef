-- One item more of a call, and one argument more.
use Rattle.std.proofs.Common.{◌≡◌, ◌∙◌, ap, refl, sym, false, List, [], ◌∷◌, ◌++◌, map, ℤ, Option, Some, None, option_map, option_and_then}
use Rattle.std.proofs.lemmas.List.{append-nil}
use Rattle.std.specs.Int.{int_max, int_min}
use Rattle.std.specs.List.{fold}
use Rattle.value_model.specs.Calculations.{Calculation, calculation, smallest, largest}
use Rattle.value_model.specs.Lengths as lengths
use Rattle.value_model.specs.CalculationGrammar.{CalcValue, number, length as a_length, CalcItem, white, operator, value, add, subtract, multiply, divide, separate, Pieces, pieces_at, pieces, is_comma, sums_of, arguments_of, numbers_of, lengths_of, clamp_value, sum_of}
use Rattle.value_model.specs.Words.{only_of}
use Rattle.query_units.specs.Views.{length_view, listed}
use Rattle.query_units.specs.declared.calls.Call.{Call}
use Rattle.query_units.specs.declared.functions.MathFunction.{MathFunction}
use Rattle.query_units.specs.declared.functions.MathFunction.TheVariants.{Calc, Min, Max, Clamp}
use Rattle.query_units.specs.declared.functions.Arguments.{Arguments}
use Rattle.query_units.specs.declared.functions.Arguments.TheVariants.{Empty, Numbers, Lengths, Invalid}
use Rattle.query_units.specs.declared.length.Length.{Length as Written}
use Rattle.query_units.specs.declared.sums.Sum.{Sum}
use Rattle.query_units.specs.inner.CalcItems.{is_comma_item}
use Rattle.query_units.specs.inner.Calls.{function_view, call_with, sums_after, call_after}
use Rattle.query_units.specs.inner.Sums.{sum_after}

abbrev pub call_of_parts : Arguments → Sum → Call
call_of_parts arguments sum = record { arguments = arguments; sum = sum }

-- ---- lists of one type

pub all_numbers : (ns : List ℤ) → numbers_of (map number ns) ≡ Some ns
all_numbers [] = refl
all_numbers (n ∷ ns) = ap (option_map (λ ms. n ∷ ms)) (all_numbers ns)

pub all_lengths : (ls : List Written)
    → lengths_of (map (λ l. a_length (length_view l)) ls) ≡ Some (listed (map length_view ls))
all_lengths [] = refl
all_lengths (l ∷ ls) = ap (option_map (λ cs. calculation (length_view l) cs)) (all_lengths ls)

pub min_of_lengths : (a : Written) (ls : List Written)
    → Some (a_length (smallest (length_view a) (listed (map length_view ls))))
    ≡ function_view Min (a_length (length_view a) ∷ map (λ l. a_length (length_view l)) ls)
min_of_lengths a ls = sym (ap (option_map (λ cs. a_length (smallest (length_view a) cs))) (all_lengths ls))

pub max_of_lengths : (a : Written) (ls : List Written)
    → Some (a_length (largest (length_view a) (listed (map length_view ls))))
    ≡ function_view Max (a_length (length_view a) ∷ map (λ l. a_length (length_view l)) ls)
max_of_lengths a ls = sym (ap (option_map (λ cs. a_length (largest (length_view a) cs))) (all_lengths ls))

-- ---- values of two types have no value

length_among : (ns : List ℤ) (a : Calculation lengths.Length) (values : List CalcValue)
    → numbers_of (map number ns ++ a_length a ∷ values) ≡ None
length_among [] a values = refl
length_among (n ∷ ns) a values = ap (option_map (λ ms. n ∷ ms)) (length_among ns a values)

number_among : (ls : List Written) (n : ℤ) (values : List CalcValue)
    → lengths_of (map (λ l. a_length (length_view l)) ls ++ number n ∷ values) ≡ None
number_among [] n values = refl
number_among (l ∷ ls) n values =
    ap (option_map (λ cs. calculation (length_view l) cs)) (number_among ls n values)

only_one : (v w : CalcValue) (front values : List CalcValue) → only_of (v ∷ (front ++ w ∷ values)) ≡ None
only_one v w [] values = refl
only_one v w (u ∷ front) values = refl

-- a number, and then a length
number_length_clamped : (n : ℤ) (ns : List ℤ) (a : Calculation lengths.Length) (values : List CalcValue)
    → clamp_value (number n ∷ (map number ns ++ a_length a ∷ values)) ≡ None
number_length_clamped n [] a [] = refl
number_length_clamped n [] a (number m ∷ []) = refl
number_length_clamped n [] a (a_length b ∷ []) = refl
number_length_clamped n [] a (v ∷ w ∷ values) = refl
number_length_clamped n (m ∷ []) a [] = refl
number_length_clamped n (m ∷ []) a (v ∷ values) = refl
number_length_clamped n (m ∷ k ∷ []) a values = refl
number_length_clamped n (m ∷ k ∷ j ∷ ns) a values = refl

length_number_clamped : (b : Calculation lengths.Length) (ls : List Written) (n : ℤ) (values : List CalcValue)
    → clamp_value (a_length b ∷ (map (λ l. a_length (length_view l)) ls ++ number n ∷ values)) ≡ None
length_number_clamped b [] n [] = refl
length_number_clamped b [] n (number m ∷ []) = refl
length_number_clamped b [] n (a_length c ∷ []) = refl
length_number_clamped b [] n (v ∷ w ∷ values) = refl
length_number_clamped b (l ∷ []) n [] = refl
length_number_clamped b (l ∷ []) n (v ∷ values) = refl
length_number_clamped b (l ∷ k ∷ []) n values = refl
length_number_clamped b (l ∷ k ∷ j ∷ ls) n values = refl

number_then_length : (f : MathFunction) (n : ℤ) (ns : List ℤ) (a : Calculation lengths.Length) (values : List CalcValue)
    → function_view f (number n ∷ (map number ns ++ a_length a ∷ values)) ≡ None
number_then_length Calc n ns a values = only_one (number n) (a_length a) (map number ns) values
number_then_length Min n ns a values = ap (option_map (λ ms. number (fold int_min n ms))) (length_among ns a values)
number_then_length Max n ns a values = ap (option_map (λ ms. number (fold int_max n ms))) (length_among ns a values)
number_then_length Clamp n ns a values = number_length_clamped n ns a values

length_then_number : (f : MathFunction) (b : Calculation lengths.Length) (ls : List Written) (n : ℤ) (values : List CalcValue)
    → function_view f (a_length b ∷ (map (λ l. a_length (length_view l)) ls ++ number n ∷ values)) ≡ None
length_then_number Calc b ls n values = only_one (a_length b) (number n) (map (λ l. a_length (length_view l)) ls) values
length_then_number Min b ls n values = ap (option_map (λ cs. a_length (smallest b cs))) (number_among ls n values)
length_then_number Max b ls n values = ap (option_map (λ cs. a_length (largest b cs))) (number_among ls n values)
length_then_number Clamp b ls n values = length_number_clamped b ls n values

-- ---- one argument more

more_of_map : {X : Type 0} (view : X → CalcValue) (xs : List X) (x : X) (values : List CalcValue)
    → map view (xs ++ x ∷ []) ++ values ≡ map view xs ++ view x ∷ values
more_of_map view [] x values = refl
more_of_map view (y ∷ xs) x values = ap (λ vs. view y ∷ vs) (more_of_map view xs x values)

pub push_number : (n : ℤ) (ns : List ℤ) (m : ℤ) (f : MathFunction) (values : List CalcValue)
    → call_with (Numbers n (ns ++ m ∷ [])) f values ≡ call_with (Numbers n ns) f (number m ∷ values)
push_number n ns m f values = ap (λ vs. function_view f (number n ∷ vs)) (more_of_map number ns m values)

pub push_length : (a : Written) (ls : List Written) (b : Written) (f : MathFunction) (values : List CalcValue)
    → call_with (Lengths a (ls ++ b ∷ [])) f values ≡ call_with (Lengths a ls) f (a_length (length_view b) ∷ values)
push_length a ls b f values =
    ap (λ vs. function_view f (a_length (length_view a) ∷ vs)) (more_of_map (λ l. a_length (length_view l)) ls b values)

pub push_length_to_numbers : (n : ℤ) (ns : List ℤ) (a : Calculation lengths.Length) (f : MathFunction)
    (values : List CalcValue) → None ≡ call_with (Numbers n ns) f (a_length a ∷ values)
push_length_to_numbers n ns a f values = sym (number_then_length f n ns a values)

pub push_number_to_lengths : (a : Written) (ls : List Written) (n : ℤ) (f : MathFunction) (values : List CalcValue)
    → None ≡ call_with (Lengths a ls) f (number n ∷ values)
push_number_to_lengths a ls n f values = sym (length_then_number f (length_view a) ls n values)

-- ---- the value of a call

pub value_of_empty : (f : MathFunction) → None ≡ call_with Empty f []
value_of_empty Calc = refl
value_of_empty Min = refl
value_of_empty Max = refl
value_of_empty Clamp = refl

pub value_of_numbers_alone : (n : ℤ) (ns : List ℤ) (f : MathFunction)
    → function_view f (number n ∷ map number ns) ≡ call_with (Numbers n ns) f []
value_of_numbers_alone n ns f = ap (λ vs. function_view f (number n ∷ vs)) (sym (append-nil (map number ns)))

pub value_of_lengths_alone : (a : Written) (ls : List Written) (f : MathFunction)
    → function_view f (a_length (length_view a) ∷ map (λ l. a_length (length_view l)) ls) ≡ call_with (Lengths a ls) f []
value_of_lengths_alone a ls f =
    ap (λ vs. function_view f (a_length (length_view a) ∷ vs)) (sym (append-nil (map (λ l. a_length (length_view l)) ls)))

-- ---- items

-- nothing was read
pub first_of_call : (s : Sum) → ((items : List CalcItem) → sum_after s items ≡ sum_of items)
    → (f : MathFunction) (items : List CalcItem)
    → call_after (call_of_parts Empty s) f items ≡ option_and_then (function_view f) (arguments_of items)
unfolding call_after
first_of_call s h f items =
    let p : Pieces = pieces_at is_comma items in
    ap (λ x. option_and_then (function_view f) (option_and_then (λ v. option_map (λ values. v ∷ values)
    (sums_of (map (λ next. next.1) p.others))) x)) (h p.first)

-- what no function takes has no value
invalid_values : (f : MathFunction) (x : Option (List CalcValue))
    → option_and_then (call_with Invalid f) x ≡ None
invalid_values f None = refl
invalid_values f (Some values) = refl

pub invalid_call : (s : Sum) (f : MathFunction) (items : List CalcItem)
    → call_after (call_of_parts Invalid s) f items ≡ None
unfolding call_after
invalid_call s f items = invalid_values f (sums_after s (pieces_at is_comma items))

uncut : (item : CalcItem) → is_comma_item item ≡ false → (items : List CalcItem)
    → pieces_at is_comma (item ∷ items)
    ≡ pieces (item ∷ (pieces_at is_comma items).first) (pieces_at is_comma items).others
uncut white n items = refl
uncut (value v) n items = refl
uncut (operator separate) n items = cc
uncut (operator add) n items = refl
uncut (operator subtract) n items = refl
uncut (operator multiply) n items = refl
uncut (operator divide) n items = refl

-- an item of an argument
pub item_step : (arguments : Arguments) (old new : Sum) (item : CalcItem) → is_comma_item item ≡ false
    → ((items : List CalcItem) → sum_after new items ≡ sum_after old (item ∷ items))
    → (f : MathFunction) (items : List CalcItem)
    → call_after (call_of_parts arguments new) f items ≡ call_after (call_of_parts arguments old) f (item ∷ items)
unfolding call_after
item_step arguments old new item n h f items =
    let p : Pieces = pieces_at is_comma items in
    ap (λ x. option_and_then (call_with arguments f) (option_and_then (λ v. option_map (λ values. v ∷ values)
    (sums_of (map (λ next. next.1) p.others))) x)) (h p.first)
    ∙ ap (λ x. option_and_then (call_with arguments f) (sums_after old x)) (sym (uncut item n items))

one_more : (old new : Arguments) (v : CalcValue) (f : MathFunction)
    → ((values : List CalcValue) → call_with new f values ≡ call_with old f (v ∷ values))
    → (x : Option (List CalcValue))
    → option_and_then (call_with new f) x ≡ option_and_then (call_with old f) (option_map (λ values. v ∷ values) x)
one_more old new v f h None = refl
one_more old new v f h (Some values) = h values

-- a comma after an argument
pub comma_step : (old new : Arguments) (s begun : Sum) (v : CalcValue) → sum_after s [] ≡ Some v
    → ((items : List CalcItem) → sum_after begun items ≡ sum_of items)
    → ((f : MathFunction) (values : List CalcValue) → call_with new f values ≡ call_with old f (v ∷ values))
    → (f : MathFunction) (items : List CalcItem)
    → call_after (call_of_parts new begun) f items ≡ call_after (call_of_parts old s) f (operator separate ∷ items)
unfolding call_after
comma_step old new s begun v e h more f items =
    let p : Pieces = pieces_at is_comma items in
    ap (λ x. option_and_then (call_with new f) (option_and_then (λ w. option_map (λ values. w ∷ values)
    (sums_of (map (λ next. next.1) p.others))) x)) (h p.first)
    ∙ (one_more old new v f (more f) (sums_of (p.first ∷ map (λ next. next.1) p.others))
    ∙ ap (λ x. option_and_then (call_with old f) (option_and_then (λ w. option_map (λ values. w ∷ values)
    (sums_of (p.first ∷ map (λ next. next.1) p.others))) x)) (sym e))

-- a comma after what is no sum
pub comma_invalid : (old : Arguments) (s : Sum) → sum_after s [] ≡ None
    → (f : MathFunction) (items : List CalcItem)
    → None ≡ call_after (call_of_parts old s) f (operator separate ∷ items)
unfolding call_after
comma_invalid old s e f items =
    let p : Pieces = pieces_at is_comma items in
    ap (λ x. option_and_then (call_with old f) (option_and_then (λ w. option_map (λ values. w ∷ values)
    (sums_of (p.first ∷ map (λ next. next.1) p.others))) x)) (sym e)

-- nothing more
pub call_ends : (old new : Arguments) (s : Sum) (v : CalcValue) → sum_after s [] ≡ Some v
    → ((f : MathFunction) (values : List CalcValue) → call_with new f values ≡ call_with old f (v ∷ values))
    → (f : MathFunction) → call_with new f [] ≡ call_after (call_of_parts old s) f []
unfolding call_after
call_ends old new s v e more f =
    more f [] ∙ ap (λ x. option_and_then (call_with old f) (option_and_then (λ w. option_map (λ values. w ∷ values) (Some [])) x)) (sym e)

pub call_ends_invalid : (old : Arguments) (s : Sum) → sum_after s [] ≡ None → (f : MathFunction)
    → None ≡ call_after (call_of_parts old s) f []
unfolding call_after
call_ends_invalid old s e f =
    ap (λ x. option_and_then (call_with old f) (option_and_then (λ w. option_map (λ values. w ∷ values) (Some [])) x)) (sym e)
