-- What holds of each value of a form holds of the value of component values (CSS Values 4, section 2).
use Rattle.std.proofs.Common.{◌≡◌, refl, ◌&&◌, ◌||◌, List, [], ◌∷◌, Bool, true, false, inl, inr}
use Rattle.std.specs.Prelude.{ℤ, pos, codes, int_le, Option, Some, None, IfSome, option_map}
use Rattle.std.specs.List.{find, list_all}
use Rattle.std.specs.Map.{lookup}
use Rattle.std.specs.Str.{bytes_eq, str_eq_ignore_ascii_case}
use Rattle.std.proofs.lemmas.Bool.{cases_Bool}
use Rattle.std.proofs.lemmas.Option.{IfSome_then}
use Rattle.std.proofs.lemmas.Slice.Eq.{bytes_eq-Decides}
use Rattle.css_model.specs.Classes.{Text}
use Rattle.css_model.specs.Components.{Component, Components}
use Rattle.rules_model.specs.ComponentLists.{ident_of}
use Rattle.value_model.specs.declared.color.Color.TheVariants.{CurrentColor, Rgba as AnRgba}
use Rattle.value_model.specs.declared.color.Rgba.{Rgba}
use Rattle.value_model.specs.declared.containment.Containment.{Containment}
use Rattle.value_model.specs.declared.keyword.Keyword.{Keyword}
use Rattle.value_model.specs.declared.prop.Prop.{Prop}
use Rattle.value_model.specs.declared.wide_keyword.WideKeyword.{WideKeyword}
use Rattle.value_model.specs.CalculationGrammar.{any_length_of, length_from_zero_of}
use Rattle.value_model.specs.Calculations.{Calculation}
use Rattle.value_model.specs.Colors.{color_of}
use Rattle.value_model.specs.Forms.{Form, one_of, a_length, a_length_or_percentage, any_length_or_percentage, a_number, any_number, an_integer_between, any_integer, a_color, a_containment, container_names, keyword_among, number_of, integer_of, is_between, unless, with_containment, containment_of_words, whole_containments, whole_containment, containment_of, container_name_of, in_front, names_of, is_none_alone, container_names_of, value_of_one, value_of_form}
use Rattle.value_model.specs.Grammar.{value_of_forms, value_of, wide_keyword_of, own_value_of}
use Rattle.value_model.specs.Keywords.{keyword_text}
use Rattle.value_model.specs.Lengths.{Length}
use Rattle.value_model.specs.Properties.{property}
use Rattle.value_model.specs.Values.{Value, wide_keyword, keyword_value, length_value, number_value, integer_value, color_value, containment_value, names_value}
use Rattle.value_model.specs.Words.{words_of}
use Rattle.value_laws.specs.ComputedForms.{is_among, is_rgba, is_container_name}
use Rattle.value_laws.proofs.Colors.{if-color}
use Rattle.value_laws.proofs.Found.{if-all, if-map, if-then, if-or, if-test, if-either}

-- ---- one form

-- this holds of each value of a form
abbrev pub OfForm : Form → (Value → Type 0) → Type 0
OfForm (one_of keywords) P = (k : Keyword) → is_among keywords k ≡ true → P (keyword_value k)
OfForm a_length P = (l : Calculation Length) → P (length_value l)
OfForm a_length_or_percentage P = (l : Calculation Length) → P (length_value l)
OfForm any_length_or_percentage P = (l : Calculation Length) → P (length_value l)
OfForm a_number P = (n : ℤ) → int_le (pos 0) n ≡ true → P (number_value n)
OfForm any_number P = (n : ℤ) → P (number_value n)
OfForm (an_integer_between least greatest) P =
    (n : ℤ) → is_between least greatest n ≡ true → P (integer_value n)
OfForm any_integer P = (n : ℤ) → P (integer_value n)
OfForm a_color P = P (color_value CurrentColor) ×
    ((c : Rgba) → is_rgba c ≡ true → P (color_value (AnRgba c)))
OfForm a_containment P = (c : Containment) → (c.size && c.inline_size) ≡ false → P
    (containment_value c)
OfForm container_names P = (ns : List Text) → list_all is_container_name ns ≡ true → P
    (names_value ns)

-- ---- keywords

first-among : (k : Keyword) (ks : List Keyword) → is_among (k ∷ ks) k ≡ true
first-among k ks = rw ((bytes_eq-Decides (keyword_text k) (keyword_text k)).1 refl) refl

or-true : (a b : Bool) → b ≡ true → (a || b) ≡ true
or-true true b h = refl
or-true false b h = h

found-among : (test : Keyword → Bool) (ks : List Keyword)
    → IfSome (find test ks) (λ k. is_among ks k ≡ true)
found-among test [] = tt
found-among test (k ∷ ks) = elim (cases_Bool (test k)) [
  | inl met ↦ rw met (first-among k ks)
  | inr unmet ↦ rw unmet (IfSome_then (find test ks) (found-among test ks)
      (λ j h. or-true (bytes_eq (keyword_text k) (keyword_text j)) (is_among ks j) h))
]

if-keyword : (keywords : List Keyword) (P : Keyword → Type 0)
    → ((k : Keyword) → is_among keywords k ≡ true → P k)
    → (c : Component) → IfSome (keyword_among keywords c) P
if-keyword keywords P h c =
    let named : (name : Text) → IfSome
    (find (λ k. str_eq_ignore_ascii_case name (keyword_text k)) keywords) P =
    λ name. IfSome_then (find (λ k. str_eq_ignore_ascii_case name (keyword_text k)) keywords)
    (found-among (λ k. str_eq_ignore_ascii_case name (keyword_text k)) keywords) h in
    if-then (λ name. find (λ k. str_eq_ignore_ascii_case name (keyword_text k)) keywords) P
    (ident_of c)
    (if-all (λ name. IfSome
    (find (λ k. str_eq_ignore_ascii_case name (keyword_text k)) keywords) P) (ident_of c) named)

-- ---- `contain`

-- not both kinds of size containment
abbrev NotBoth : Containment → Type 0
NotBoth c = (c.size && c.inline_size) ≡ false

with-one : (name : Text) (c : Containment) → NotBoth c → IfSome (with_containment name c) NotBoth
with-one name c h =
    if-either (str_eq_ignore_ascii_case name (codes "size")) NotBoth _ _ (λ _. at-most _ _ refl)
    (λ _. if-either (str_eq_ignore_ascii_case name (codes "inline-size")) NotBoth _ _
    (λ _. at-most _ _ refl)
    (λ _. if-either (str_eq_ignore_ascii_case name (codes "layout")) NotBoth _ _
    (λ _. at-most _ _ h)
    (λ _. if-either (str_eq_ignore_ascii_case name (codes "style")) NotBoth _ _ (λ _. at-most _ _ h)
    (λ _. if-either (str_eq_ignore_ascii_case name (codes "paint")) NotBoth _ _
    (λ _. at-most _ _ h) (λ _. tt)))))
  where
    at-most : (holds : Bool) (c : Containment) → NotBoth c → IfSome (unless holds c) NotBoth
    at-most true c h = tt
    at-most false c h = h

of-words : (words : List Component) → IfSome (containment_of_words words) NotBoth
of-words [] = refl
of-words (c ∷ cs) = if-then _ NotBoth (ident_of c) (if-all _ (ident_of c)
    (λ name. if-then (with_containment name) NotBoth (containment_of_words cs)
    (IfSome_then (containment_of_words cs) (of-words cs) (with-one name))))

found-whole : (test : Text → Bool) → IfSome (lookup test whole_containments) NotBoth
found-whole test =
    if-either (test (codes "none")) NotBoth _ _ (λ _. refl)
    (λ _. if-either (test (codes "strict")) NotBoth _ _ (λ _. refl)
    (λ _. if-either (test (codes "content")) NotBoth _ _ (λ _. refl) (λ _. tt)))

whole : (c : Component) → IfSome (whole_containment c) NotBoth
whole c = if-then _ NotBoth (ident_of c)
    (if-all _ (ident_of c) (λ name. found-whole (str_eq_ignore_ascii_case name)))

of-containment : (words : List Component) → IfSome (containment_of words) NotBoth
of-containment [] = tt
of-containment (c ∷ []) = if-or NotBoth (whole_containment c) (containment_of_words (c ∷ []))
    (whole c) (of-words (c ∷ []))
of-containment (c ∷ d ∷ cs) = of-words (c ∷ d ∷ cs)

-- ---- names

abbrev AreNames : List Text → Type 0
AreNames ns = list_all is_container_name ns ≡ true

one-name : (c : Component) → IfSome (container_name_of c) (λ name. is_container_name name ≡ true)
one-name c = if-test is_container_name (λ name. is_container_name name ≡ true) (ident_of c)
    (if-all _ (ident_of c) (λ name h. h))

front-name : (o : Option Text) (rest : Option (List Text))
    → IfSome o (λ name. is_container_name name ≡ true)
    → IfSome rest AreNames → IfSome (in_front o rest) AreNames
front-name None rest h k = tt
front-name (Some name) None h k = tt
front-name (Some name) (Some ns) h k = rw h k

of-names : (words : List Component) → IfSome (names_of words) AreNames
of-names [] = refl
of-names (c ∷ cs) = front-name (container_name_of c) (names_of cs) (one-name c) (of-names cs)

of-container_names : (words : List Component) → IfSome (container_names_of words) AreNames
of-container_names [] = tt
of-container_names (c ∷ cs) = if-either (is_none_alone (c ∷ cs)) AreNames (Some [])
    (names_of (c ∷ cs)) (λ _. refl) (λ _. of-names (c ∷ cs))

-- ---- all forms

of-one : (form : Form) (P : Value → Type 0) → OfForm form P → (c : Component)
    → IfSome (value_of_one form c) P
of-one (one_of keywords) P h c = if-map (λ k. keyword_value k) P (keyword_among keywords c)
    (if-keyword keywords (λ k. P (keyword_value k)) h c)
of-one a_length P h c = if-map (λ l. length_value l) P (length_from_zero_of false c)
    (if-all (λ l. P (length_value l)) (length_from_zero_of false c) h)
of-one a_length_or_percentage P h c = if-map (λ l. length_value l) P (length_from_zero_of true c)
    (if-all (λ l. P (length_value l)) (length_from_zero_of true c) h)
of-one any_length_or_percentage P h c = if-map (λ l. length_value l) P (any_length_of true c)
    (if-all (λ l. P (length_value l)) (any_length_of true c) h)
of-one a_number P h c = if-map (λ n. number_value n) P _
    (if-test (int_le (pos 0)) (λ n. P (number_value n))
    (option_map (λ n. n.millionths) (number_of c))
    (if-all _ (option_map (λ n. n.millionths) (number_of c)) h))
of-one any_number P h c = if-map (λ n. number_value n.millionths) P (number_of c)
    (if-all (λ n. P (number_value n.millionths)) (number_of c) (λ n. h n.millionths))
of-one (an_integer_between least greatest) P h c = if-map (λ n. integer_value n) P _
    (if-test (is_between least greatest) (λ n. P (integer_value n)) (integer_of c)
    (if-all _ (integer_of c) h))
of-one any_integer P h c = if-map (λ n. integer_value n) P (integer_of c)
    (if-all (λ n. P (integer_value n)) (integer_of c) h)
of-one a_color P h c = if-map (λ color. color_value color) P (color_of c)
    (if-color (λ color. P (color_value color)) h c)
of-one a_containment P h c = tt
of-one container_names P h c = tt

of-form : (form : Form) (P : Value → Type 0) → OfForm form P → (words : List Component)
    → IfSome (value_of_form form words) P
of-form a_containment P h words = if-map (λ c. containment_value c) P (containment_of words)
    (IfSome_then (containment_of words) (of-containment words) h)
of-form container_names P h words = if-map (λ names. names_value names) P (container_names_of words)
    (IfSome_then (container_names_of words) (of-container_names words) h)
of-form form P h [] = tt
of-form form P h (c ∷ []) = of-one form P h c
of-form form P h (c ∷ d ∷ cs) = tt

-- ---- the grammar of a property

-- this holds of each value of these forms
abbrev pub OfForms : List Form → (Value → Type 0) → Type 0
OfForms [] P = Unit {0}
OfForms (form ∷ forms) P = OfForm form P × OfForms forms P

pub of-forms : (forms : List Form) (P : Value → Type 0) → OfForms forms P → (words : List Component)
    → IfSome (value_of_forms forms words) P
of-forms [] P h words = tt
of-forms (form ∷ forms) P h words =
    if-or P (value_of_form form words) (value_of_forms forms words) (of-form form P h.0 words)
    (of-forms forms P h.1 words)

-- what holds of CSS-wide keywords and of each value of the property's forms holds of its value
pub of-value : (p : Prop) (cs : Components) (P : Value → Type 0)
    → ((w : WideKeyword) → P (wide_keyword w))
    → OfForms (property p).forms P → IfSome (value_of p cs) P
of-value p cs P wide h =
    if-or P (option_map (λ w. wide_keyword w) (wide_keyword_of (words_of cs)))
    (own_value_of p (words_of cs))
    (if-map (λ w. wide_keyword w) P (wide_keyword_of (words_of cs))
    (if-all (λ w. P (wide_keyword w)) (wide_keyword_of (words_of cs)) wide))
    (of-forms (property p).forms P h (words_of cs))
