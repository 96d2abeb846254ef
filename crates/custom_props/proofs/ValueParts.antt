-- What values hold, one component value after another.
use Rattle.std.proofs.Common.{◌≡◌, ◌∙◌, ap, sym, refl, ℕ, suc, nat_lt, length, ◌&&◌, ◌||◌, List, [], ◌∷◌, ◌++◌, Bool, true, false, inl, inr, Option, Some, None, option_and_then, if◌then◌else◌, arith}
use Rattle.std.specs.List.{list_all}
use Rattle.std.proofs.lemmas.Bool.{cases_Bool}
use Rattle.std.proofs.lemmas.Bool.Decides.{nat_tests}
use Rattle.css_model.specs.declared.token.Token.{Token}
use Rattle.css_model.specs.Classes.{Text}
use Rattle.css_model.specs.Components.{Component, Components, component, function_block}
use Rattle.rules_model.specs.ComponentLists.{is_whitespace}
use Rattle.custom_model.specs.References.{all_vars_in, custom_name_of, has_right_vars, has_var, is_comma, is_declaration_value, is_var_type, reference_in, reference_to, vars_in}
use Rattle.custom_props.specs.inner.Reading.{after_comma, has_right_form, is_or_has_var, is_reference, is_right, named_before}

some-append : (xs ys : List Components)
    → nat_lt 0 (length (xs ++ ys)) ≡ (nat_lt 0 (length xs) || nat_lt 0 (length ys))
some-append [] ys = refl
some-append (x ∷ xs) ys = positive (length (xs ++ ys)) ∙ ap (λ b. b || nat_lt 0 (length ys)) (sym (positive (length xs)))
  where
    positive : (n : ℕ) → nat_lt 0 (suc n) ≡ true
    positive n = grind (arith, nat_tests)

pub has_var_cons : (c : Component) (cs : Components) → has_var (component c cs) ≡ (is_or_has_var c || has_var cs)
has_var_cons c cs = some-append (vars_in c) (all_vars_in cs)

pub has_var_function : (head : Token) (contents : Components) (close : Option Token)
    → is_or_has_var (function_block head contents close) ≡ (is_var_type head.token_type || has_var contents)
has_var_function head contents close = elim (cases_Bool (is_var_type head.token_type)) [
  | inl t ↦ rw t (grind (arith, nat_tests))
  | inr f ↦ rw f refl
]

all-append : (test : Components → Bool) (xs ys : List Components)
    → list_all test (xs ++ ys) ≡ (list_all test xs && list_all test ys)
all-append test [] ys = refl
all-append test (x ∷ xs) ys =
    ap (λ b. test x && b) (all-append test xs ys) ∙ grouped (test x) (list_all test xs) (list_all test ys)
  where
    grouped : (a b c : Bool) → (a && (b && c)) ≡ ((a && b) && c)
    grouped true b c = refl
    grouped false b c = refl

pub right_cons : (c : Component) (cs : Components)
    → has_right_vars (component c cs) ≡ (is_right c && has_right_vars cs)
right_cons c cs = all-append is_reference (vars_in c) (all_vars_in cs)

pub right_function : (head : Token) (contents : Components) (close : Option Token)
    → is_right (function_block head contents close)
    ≡ (has_right_form head.token_type contents && has_right_vars contents)
right_function head contents close = elim (cases_Bool (is_var_type head.token_type)) [
  | inl t ↦ rw t refl
  | inr f ↦ rw f refl
]

-- ---- the contents of a `var()`

-- after the name, where white space is passed over
pub named_space : (name : Text) (c : Component) (cs : Components) → is_whitespace c ≡ true
    → named_before name (component c cs) ≡ named_before name cs
named_space name c cs t = rw t refl

pub named_end : (name : Text) (c : Component) (cs : Components) → is_whitespace c ≡ false
    → named_before name (component c cs)
    ≡ (if is_comma c && is_declaration_value cs then Some name else None)
named_end name c cs f = elim (cases_Bool (is_comma c && is_declaration_value cs)) [
  | inl t ↦ rw (f, t) refl
  | inr g ↦ rw (f, g) refl
]

pub reference_space : (c : Component) (cs : Components) → is_whitespace c ≡ true
    → reference_in (component c cs) ≡ reference_in cs
reference_space c cs t = rw t refl

pub reference_word : (c : Component) (cs : Components) → is_whitespace c ≡ false
    → reference_in (component c cs) ≡ option_and_then (λ name. reference_to name cs) (custom_name_of c)
reference_word c cs f = rw f refl

pub comma-other : (c : Component) (cs : Components) → is_comma c ≡ false
    → after_comma (component c cs) ≡ after_comma cs
comma-other c cs f = rw f refl

pub comma-at : (c : Component) (cs : Components) → is_comma c ≡ true
    → after_comma (component c cs) ≡ Some cs
comma-at c cs t = rw t refl
