-- The forms of values that are one component value or a list of words, as grammars of properties name
-- them (CSS Values 4, sections 2, 4 and 5).
use Rattle.std.specs.Prelude.{ℕ, ℤ, pos, ◌&&◌, ◌||◌, not, int_le, int_div, if◌then◌else◌, List, [], ◌∷◌, codes, Option, Some, None, option_map, option_and_then, unwrap_or, Bool, true, false}
use Rattle.std.specs.List.{list_any, find}
use Rattle.std.specs.Map.{lookup}
use Rattle.std.specs.Option.{option_or}
use Rattle.std.specs.Str.{str_eq_ignore_ascii_case}
use Rattle.css_model.specs.declared.token.Number.{Number as NumberValue}
use Rattle.css_model.specs.declared.token.TokenType.{TokenType}
use Rattle.css_model.specs.declared.token.TokenType.TheVariants.{Number}
use Rattle.css_model.specs.Classes.{Text}
use Rattle.css_model.specs.Components.{Component, preserved}
use Rattle.rules_model.specs.ComponentLists.{ident_of}
use Rattle.value_model.specs.declared.containment.Containment.{Containment}
use Rattle.value_model.specs.declared.keyword.Keyword.{Keyword}
use Rattle.value_model.specs.Colors.{color_of}
use Rattle.value_model.specs.Keywords.{keyword_text}
use Rattle.value_model.specs.CalculationGrammar.{any_length_of, length_from_zero_of}
use Rattle.value_model.specs.Values.{Value, keyword_value, length_value, number_value, integer_value, color_value, containment_value, names_value}

-- what a grammar may name; without `any` a number that is written is not negative, and a calculation
-- may be
pub data Form : Type 0 where
  one_of : List Keyword → Form
  a_length : Form
  a_length_or_percentage : Form
  any_length_or_percentage : Form
  a_number : Form
  any_number : Form
  an_integer_between : (least greatest : ℕ) → Form
  any_integer : Form
  a_color : Form
  -- `none`, `strict`, `content`, or some of `size`, `inline-size`, `layout`, `style`, `paint`
  a_containment : Form
  -- `none`, or some names
  container_names : Form

-- ---- one component value

-- the one of these keywords that a component value is, in any case
abbrev pub keyword_among : List Keyword → Component → Option Keyword
keyword_among keywords c =
    option_and_then (λ name. find (λ k. str_eq_ignore_ascii_case name (keyword_text k)) keywords) (ident_of c)

abbrev pub number_of_type : TokenType → Option NumberValue
number_of_type (Number n) = Some n
number_of_type other = None

-- the number that a component value is, if it is one
abbrev pub number_of : Component → Option NumberValue
number_of (preserved t) = number_of_type t.token_type
number_of other = None

-- the integer that a number is, if it was written as one
abbrev pub integer_of : Component → Option ℤ
integer_of c = option_and_then
    (λ n. if n.is_integer then Some (int_div n.millionths (pos 1000000)) else None) (number_of c)

abbrev pub is_between : ℕ → ℕ → ℤ → Bool
is_between least greatest n = int_le (pos least) n && int_le n (pos greatest)

-- a value that has to meet a condition
abbrev pub if_it : {X : Type 0} → (X → Bool) → Option X → Option X
if_it test found = option_and_then (λ x. if test x then Some x else None) found

-- the value of a form that is one component value
abbrev pub value_of_one : Form → Component → Option Value
value_of_one (one_of keywords) c = option_map (λ k. keyword_value k) (keyword_among keywords c)
value_of_one a_length c = option_map (λ l. length_value l) (length_from_zero_of false c)
value_of_one a_length_or_percentage c =
    option_map (λ l. length_value l) (length_from_zero_of true c)
value_of_one any_length_or_percentage c = option_map (λ l. length_value l) (any_length_of true c)
value_of_one a_number c =
    option_map (λ n. number_value n) (if_it (int_le (pos 0)) (option_map (λ n. n.millionths) (number_of c)))
value_of_one any_number c = option_map (λ n. number_value n.millionths) (number_of c)
value_of_one (an_integer_between least greatest) c =
    option_map (λ n. integer_value n) (if_it (is_between least greatest) (integer_of c))
value_of_one any_integer c = option_map (λ n. integer_value n) (integer_of c)
value_of_one a_color c = option_map (λ color. color_value color) (color_of c)
value_of_one a_containment c = None
value_of_one container_names c = None

-- ---- `contain` (CSS Containment 2, section 2)

abbrev pub contained : Bool → Bool → Bool → Bool → Bool → Containment
contained size inline_size layout style paint = record {
  size = size;
  inline_size = inline_size;
  layout = layout;
  style = style;
  paint = paint;
}

abbrev pub nothing_contained : Containment
nothing_contained = contained false false false false false

-- the values that are one keyword by itself
abbrev pub whole_containments : List (Text × Containment)
whole_containments =
    (codes "none", nothing_contained)
    ∷ (codes "strict", contained true false true true true)
    ∷ (codes "content", contained false false true true true)
    ∷ []

-- a value, unless this holds
abbrev pub unless : {X : Type 0} → Bool → X → Option X
unless holds x = if holds then None else Some x

-- with one more word, which may not be there before; `size` and `inline-size` do not stand together
abbrev pub with_containment : Text → Containment → Option Containment
with_containment name c =
    if str_eq_ignore_ascii_case name (codes "size")
    then unless (c.size || c.inline_size) (contained true false c.layout c.style c.paint)
    else if str_eq_ignore_ascii_case name (codes "inline-size")
    then unless (c.size || c.inline_size) (contained false true c.layout c.style c.paint)
    else if str_eq_ignore_ascii_case name (codes "layout")
    then unless c.layout (contained c.size c.inline_size true c.style c.paint)
    else if str_eq_ignore_ascii_case name (codes "style")
    then unless c.style (contained c.size c.inline_size c.layout true c.paint)
    else if str_eq_ignore_ascii_case name (codes "paint")
    then unless c.paint (contained c.size c.inline_size c.layout c.style true)
    else None

-- the containment of distinct words, in any order
abbrev pub containment_of_words : List Component → Option Containment
containment_of_words [] = Some nothing_contained
containment_of_words (c ∷ cs) =
    option_and_then (λ name. option_and_then (with_containment name) (containment_of_words cs)) (ident_of c)

abbrev pub whole_containment : Component → Option Containment
whole_containment c =
    option_and_then (λ name. lookup (str_eq_ignore_ascii_case name) whole_containments) (ident_of c)

-- one keyword by itself, or at least one word
abbrev pub containment_of : List Component → Option Containment
containment_of [] = None
containment_of (c ∷ []) = option_or (whole_containment c) (containment_of_words (c ∷ []))
containment_of (c ∷ d ∷ cs) = containment_of_words (c ∷ d ∷ cs)

-- ---- `container-name` (CSS Conditional 5, section 5.2)

-- the identifiers that are no name of a container, in any case
abbrev pub no_container_names : List Text
no_container_names =
    codes "none" ∷ codes "and" ∷ codes "or" ∷ codes "not" ∷ codes "default"
    ∷ codes "inherit" ∷ codes "initial" ∷ codes "unset" ∷ codes "revert" ∷ codes "revert-layer" ∷ []

-- the name of a container that a component value is, if it is one
abbrev pub container_name_of : Component → Option Text
container_name_of c =
    if_it (λ name. not (list_any (str_eq_ignore_ascii_case name) no_container_names)) (ident_of c)

abbrev pub in_front : {X : Type 0} → Option X → Option (List X) → Option (List X)
in_front (Some x) (Some xs) = Some (x ∷ xs)
in_front x xs = None

-- names alone
abbrev pub names_of : List Component → Option (List Text)
names_of [] = Some []
names_of (c ∷ cs) = in_front (container_name_of c) (names_of cs)

-- the component value is this identifier, in any case
abbrev pub is_word : Text → Component → Bool
is_word word c = unwrap_or (option_map (str_eq_ignore_ascii_case word) (ident_of c)) false

-- `none` and no more
abbrev pub is_none_alone : List Component → Bool
is_none_alone (c ∷ []) = is_word (codes "none") c
is_none_alone words = false

-- `none`, or at least one name
abbrev pub container_names_of : List Component → Option (List Text)
container_names_of [] = None
container_names_of (c ∷ cs) = if is_none_alone (c ∷ cs) then Some [] else names_of (c ∷ cs)

-- ---- all forms

-- the value of a form, of component values without white space
abbrev pub value_of_form : Form → List Component → Option Value
value_of_form a_containment words = option_map (λ c. containment_value c) (containment_of words)
value_of_form container_names words = option_map (λ names. names_value names) (container_names_of words)
value_of_form form (c ∷ []) = value_of_one form c
value_of_form form words = None
