-- How calculations are written: `calc()`, `min()`, `max()` and `clamp()` (CSS Values 4, sections 10.1,
-- 10.2, 10.8 and 10.9).
use Rattle.std.specs.Prelude.{ℕ, ◌==◌, ℤ, neg_ℤ, pos, ◌&&◌, ◌||◌, not, if◌then◌else◌, List, [], ◌∷◌, map, filter, codes, Option, Some, None, option_map, option_and_then, unwrap_or, Bool, true, false}
use Rattle.std.specs.Int.{int_min, int_max}
use Rattle.std.specs.List.{fold}
use Rattle.std.specs.Map.{lookup}
use Rattle.std.specs.Option.{option_or}
use Rattle.std.specs.Ordering.{int_eq}
use Rattle.std.specs.Str.{str_eq_ignore_ascii_case}
use Rattle.css_model.specs.declared.token.Bracket.TheVariants.{Round}
use Rattle.css_model.specs.declared.token.TokenType.{TokenType}
use Rattle.css_model.specs.declared.token.TokenType.TheVariants.{Function, Delim, Number, Whitespace, Comma, Opening}
use Rattle.css_model.specs.Classes.{Text, plus, hyphen, solidus}
use Rattle.css_model.specs.Components.{Component, preserved, simple_block, function_block, Components, no_components, component}
use Rattle.value_model.specs.Calculations.{Calculation, leaf, sum, scaled, divided, smallest, largest, Calculations, no_calculations, calculation, number_sum, number_product, number_quotient}
use Rattle.value_model.specs.Lengths.{Length, not_negative, length_of_type, length_or_percentage_of_type, length_of, length_or_percentage_of}
use Rattle.value_model.specs.Words.{only_of, words_of}

-- ---- values and their types (section 10.9)

-- a number in millionths, or a length; a percentage is a length
pub data CalcValue : Type 0 where
  number : ℤ → CalcValue
  length : Calculation Length → CalcValue

-- values of one type
abbrev pub value_sum : CalcValue → CalcValue → Option CalcValue
value_sum (number m) (number n) = Some (number (number_sum m n))
value_sum (length a) (length b) = Some (length (sum a b))
value_sum v w = None

abbrev pub negative_value : CalcValue → CalcValue
negative_value (number n) = number (neg_ℤ n)
negative_value (length a) = length (scaled a (neg_ℤ (pos 1000000)))

-- a number on at least one side
abbrev pub value_product : CalcValue → CalcValue → Option CalcValue
value_product (number m) (number n) = Some (number (number_product m n))
value_product (number m) (length a) = Some (length (scaled a m))
value_product (length a) (number n) = Some (length (scaled a n))
value_product (length a) (length b) = None

-- a number on the right that is not 0
abbrev pub value_quotient : CalcValue → CalcValue → Option CalcValue
value_quotient (number m) (number n) =
    if int_eq n (pos 0) then None else Some (number (number_quotient m n))
value_quotient (length a) (number n) = if int_eq n (pos 0) then None else Some (length (divided a n))
value_quotient v (length b) = None

-- ---- functions of values (section 10.2)

-- numbers alone
abbrev pub numbers_of : List CalcValue → Option (List ℤ)
numbers_of [] = Some []
numbers_of (number n ∷ values) = option_map (λ ns. n ∷ ns) (numbers_of values)
numbers_of (length a ∷ values) = None

-- lengths alone
abbrev pub lengths_of : List CalcValue → Option (Calculations Length)
lengths_of [] = Some no_calculations
lengths_of (length a ∷ values) = option_map (λ cs. calculation a cs) (lengths_of values)
lengths_of (number n ∷ values) = None

-- the smallest of values of one type
abbrev pub min_value : List CalcValue → Option CalcValue
min_value [] = None
min_value (number n ∷ values) = option_map (λ ns. number (fold int_min n ns)) (numbers_of values)
min_value (length a ∷ values) = option_map (λ cs. length (smallest a cs)) (lengths_of values)

-- the largest
abbrev pub max_value : List CalcValue → Option CalcValue
max_value [] = None
max_value (number n ∷ values) = option_map (λ ns. number (fold int_max n ns)) (numbers_of values)
max_value (length a ∷ values) = option_map (λ cs. length (largest a cs)) (lengths_of values)

-- `max(low, min(v, high))`
abbrev pub clamp_value : List CalcValue → Option CalcValue
clamp_value (low ∷ v ∷ high ∷ []) =
    option_and_then (λ m. max_value (low ∷ m ∷ [])) (min_value (v ∷ high ∷ []))
clamp_value values = None

-- the functions, by their names
abbrev pub math_functions : List (Text × (List CalcValue → Option CalcValue))
math_functions =
    (codes "calc", only_of) ∷ (codes "min", min_value) ∷ (codes "max", max_value)
    ∷ (codes "clamp", clamp_value) ∷ []

-- the value of the function of this name, in any case
abbrev pub value_of_function : Text → List CalcValue → Option CalcValue
value_of_function name values =
    option_and_then (λ f. f values) (lookup (str_eq_ignore_ascii_case name) math_functions)

-- ---- what component values are in a calculation

pub data Operator : Type 0 where
  add : Operator
  subtract : Operator
  multiply : Operator
  divide : Operator
  separate : Operator

-- white space; an operator, or the comma between arguments; a `<calc-value>`, or what is none
pub data CalcItem : Type 0 where
  white : CalcItem
  operator : Operator → CalcItem
  value : Option CalcValue → CalcItem

abbrev pub is_white : CalcItem → Bool
is_white white = true
is_white item = false

-- `+` or `-`
abbrev pub is_sign : Operator → Bool
is_sign add = true
is_sign subtract = true
is_sign o = false

-- `*` or `/`
abbrev pub is_product_operator : Operator → Bool
is_product_operator multiply = true
is_product_operator divide = true
is_product_operator o = false

abbrev pub is_comma : Operator → Bool
is_comma separate = true
is_comma o = false

-- ---- sums and products (section 10.8)

-- items before an operator, and after each such operator
pub record Pieces : Type 0 where
  pub first : List CalcItem
  pub others : List (Operator × List CalcItem)

abbrev pub pieces : List CalcItem → List (Operator × List CalcItem) → Pieces
pieces first others = record { first = first; others = others }

-- an item before pieces: an operator that passes cuts them off
abbrev pub item_before : (Operator → Bool) → CalcItem → Pieces → Pieces
item_before test (operator o) p =
    if test o then pieces [] ((o, p.first) ∷ p.others) else pieces (operator o ∷ p.first) p.others
item_before test item p = pieces (item ∷ p.first) p.others

-- the pieces between the operators that pass
abbrev pub pieces_at : (Operator → Bool) → List CalcItem → Pieces
pieces_at test [] = pieces [] []
pieces_at test (item ∷ items) = item_before test item (pieces_at test items)

abbrev pub value_of_operator : Operator → CalcValue → CalcValue → Option CalcValue
value_of_operator add v w = value_sum v w
value_of_operator subtract v w = value_sum v (negative_value w)
value_of_operator multiply v w = value_product v w
value_of_operator divide v w = value_quotient v w
value_of_operator separate v w = None

-- the value of two that are joined by an operator, where both are there
abbrev pub joined_value : Operator → Option CalcValue → Option CalcValue → Option CalcValue
joined_value o (Some v) (Some w) = value_of_operator o v w
joined_value o v w = None

-- the value of pieces, where `read` gives that of each: from left to right
abbrev pub value_of_pieces : (List CalcItem → Option CalcValue) → Pieces → Option CalcValue
value_of_pieces read p = fold (λ v next. joined_value next.0 v (read next.1)) (read p.first) p.others

-- `<calc-value>`
abbrev pub value_alone : List CalcItem → Option CalcValue
value_alone (value v ∷ []) = v
value_alone items = None

-- `<calc-product>`, without white space
abbrev pub product_of : List CalcItem → Option CalcValue
product_of items = value_of_pieces value_alone (pieces_at is_product_operator items)

-- an item is `+` or `-`
abbrev pub is_sign_item : CalcItem → Bool
is_sign_item (operator o) = is_sign o
is_sign_item item = false

abbrev pub begins_white : List CalcItem → Bool
begins_white [] = false
begins_white (item ∷ items) = is_white item

-- each `+` and `-` stands between white space; `after_white` tells of what is in front of the items
abbrev pub are_signs_spaced : Bool → List CalcItem → Bool
are_signs_spaced after_white [] = true
are_signs_spaced after_white (item ∷ items) =
    (not (is_sign_item item) || (after_white && begins_white items))
    && are_signs_spaced (is_white item) items

-- `<calc-sum>`
abbrev pub sum_of : List CalcItem → Option CalcValue
sum_of items =
    if are_signs_spaced false items
    then value_of_pieces product_of (pieces_at is_sign (filter (λ item. not (is_white item)) items))
    else None

-- sums alone
abbrev pub sums_of : List (List CalcItem) → Option (List CalcValue)
sums_of [] = Some []
sums_of (items ∷ lists) =
    option_and_then (λ v. option_map (λ values. v ∷ values) (sums_of lists)) (sum_of items)

-- the values of arguments, with commas between them
abbrev pub arguments_of : List CalcItem → Option (List CalcValue)
arguments_of items =
    let p : Pieces = pieces_at is_comma items in
    sums_of (p.first ∷ map (λ next. next.1) p.others)

-- ---- component values

-- a number, a length, or where they are allowed a percentage
abbrev pub literal_of_type : Bool → TokenType → Option CalcValue
literal_of_type with_percentages (Number n) = Some (number n.millionths)
literal_of_type with_percentages other = option_map (λ l. length (leaf l))
    (if with_percentages then length_or_percentage_of_type other else length_of_type other)

abbrev pub operators : List (ℕ × Operator)
operators = (plus, add) ∷ (hyphen, subtract) ∷ (42, multiply) ∷ (solidus, divide) ∷ []

abbrev pub item_of_type : Bool → TokenType → CalcItem
item_of_type with_percentages Whitespace = white
item_of_type with_percentages Comma = operator separate
item_of_type with_percentages (Delim c) =
    unwrap_or (option_map operator (lookup (λ d. c == d) operators)) (value None)
item_of_type with_percentages other = value (literal_of_type with_percentages other)

-- the value of a sum in round brackets
abbrev pub value_of_block : TokenType → List CalcItem → Option CalcValue
value_of_block (Opening Round) items = sum_of items
value_of_block other items = None

abbrev pub value_of_call : TokenType → List CalcItem → Option CalcValue
value_of_call (Function name) items = option_and_then (value_of_function name) (arguments_of items)
value_of_call other items = None

-- what component values are in a calculation
abbrev mutual
  pub item_of : Bool → Component → CalcItem
  item_of with_percentages (preserved t) = item_of_type with_percentages t.token_type
  item_of with_percentages (simple_block head contents close) =
      value (value_of_block head.token_type (items_of with_percentages contents))
  item_of with_percentages (function_block head contents close) =
      value (value_of_call head.token_type (items_of with_percentages contents))

  pub items_of : Bool → Components → List CalcItem
  items_of with_percentages no_components = []
  items_of with_percentages (component c cs) =
      item_of with_percentages c ∷ items_of with_percentages cs

abbrev pub length_of_value : CalcValue → Option (Calculation Length)
length_of_value (length a) = Some a
length_of_value (number n) = None

-- the calculation that a component value is, if it is one and gives a length
abbrev pub calculation_of : Bool → Component → Option (Calculation Length)
calculation_of with_percentages (function_block head contents close) =
    option_and_then length_of_value (value_of_call head.token_type (items_of with_percentages contents))
calculation_of with_percentages other = None

-- ---- lengths, literal or calculated

-- the literal that a component value is: a length, or where they are allowed a percentage
abbrev pub literal_of : Bool → Component → Option Length
literal_of with_percentages c = if with_percentages then length_or_percentage_of c else length_of c

-- the length that a component value is
abbrev pub any_length_of : Bool → Component → Option (Calculation Length)
any_length_of with_percentages c =
    option_or (option_map (λ l. leaf l) (literal_of with_percentages c)) (calculation_of with_percentages c)

-- the same where a literal may not be negative; a calculation may be, and is no literal (section 10.12)
abbrev pub length_from_zero_of : Bool → Component → Option (Calculation Length)
length_from_zero_of with_percentages c =
    option_or
    (option_map (λ l. leaf l) (not_negative (literal_of with_percentages c)))
    (calculation_of with_percentages c)

-- the length that is all there is
abbrev pub length_in : Bool → Components → Option (Calculation Length)
length_in with_percentages cs = option_and_then (any_length_of with_percentages) (only_of (words_of cs))
