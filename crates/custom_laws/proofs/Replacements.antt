-- What stands in place of component values, by their references.
use Rattle.std.proofs.Common.{◌≡◌, ◌∙◌, ap, ap₂, sym, refl, length, nat_lt, if◌then◌else◌, List, [], ◌∷◌, ◌++◌, Bool, true, false, inl, inr, Option, Some, None, option_map, option_and_then, filter_map, arith}
use Rattle.std.specs.List.{cons_option, list_any}
use Rattle.std.specs.Option.{option_or}
use Rattle.std.proofs.lemmas.Bool.{cases_Bool, false≢true}
use Rattle.std.proofs.lemmas.Bool.Decides.{nat_tests}
use Rattle.std.proofs.lemmas.Option.{none-some, same_Some}
use Rattle.css_model.specs.declared.token.TheConstants.{MAX_NESTING}
use Rattle.css_model.specs.declared.token.Token.{Token}
use Rattle.css_model.specs.Classes.{Text}
use Rattle.css_model.specs.Components.{Component, preserved, simple_block, function_block, Components, no_components, component}
use Rattle.page_model.specs.Attributes.{is_same_text}
use Rattle.page_laws.proofs.AttributesInOrder.{text-same}
use Rattle.page_laws.proofs.Options.{true-or-right}
use Rattle.rules_model.specs.ComponentLists.{is_whitespace}
use Rattle.custom_model.specs.declared.limits.TheConstants.{MAX_SUBSTITUTED_TOKENS}
use Rattle.custom_model.specs.References.{Reference, custom_name_of, is_comma, is_declaration_value, is_var_type, names_in, reference_in, reference_to, vars_in, all_vars_in, has_var}
use Rattle.custom_model.specs.Substitution.{if_within, Entries, one_component, entry_of_reference, replacement_of, replacement_of_all, replacement_of_fallback, both_followed, substituted}
use Rattle.custom_laws.proofs.CommaTypes.{name-no-comma, space-no-comma}
use Rattle.custom_laws.specs.SameEntries.{AreSameOn}

-- ---- by the entries of the names one_component

-- the same stands for what each of these refers to
abbrev Agree : Entries → Entries → List Components → Type 0
Agree e f [] = Unit {0}
Agree e f (contents ∷ vars) = (entry_of_reference e contents ≡ entry_of_reference f contents) × Agree e f vars

agree-front : (e f : Entries) (xs ys : List Components) → Agree e f (xs ++ ys) → Agree e f xs
agree-front e f [] ys a = tt
agree-front e f (x ∷ xs) ys a = (a.0, agree-front e f xs ys a.1)

agree-back : (e f : Entries) (xs ys : List Components) → Agree e f (xs ++ ys) → Agree e f ys
agree-back e f [] ys a = a
agree-back e f (x ∷ xs) ys a = agree-back e f xs ys a.1

-- a function, where this says whether it is a `var()`
same-function : (is_var : Bool) (e f : Entries) (head : Token) (contents : Components) (close : Option Token)
    → (Agree e f (all_vars_in contents) → replacement_of_all e contents ≡ replacement_of_all f contents)
    → (Agree e f (all_vars_in contents) → replacement_of_fallback e contents ≡ replacement_of_fallback f contents)
    → Agree e f (if is_var then contents ∷ all_vars_in contents else all_vars_in contents)
    → (if is_var then option_or (entry_of_reference e contents) (replacement_of_fallback e contents)
    else option_map (λ cs. one_component (function_block head cs close)) (replacement_of_all e contents))
    ≡ (if is_var then option_or (entry_of_reference f contents) (replacement_of_fallback f contents)
    else option_map (λ cs. one_component (function_block head cs close)) (replacement_of_all f contents))
same-function true e f head contents close all fallback a = ap₂ option_or a.0 (fallback a.1)
same-function false e f head contents close all fallback a =
    ap (option_map (λ cs. one_component (function_block head cs close))) (all a)

-- what is after a component in the contents, where this says whether it is a `,`
same-after : (comma : Bool) (a b c d : Option Components) → a ≡ b → c ≡ d
    → (if comma then a else c) ≡ (if comma then b else d)
same-after true a b c d h k = h
same-after false a b c d h k = k

mutual
  same-one : (e f : Entries) (c : Component) → Agree e f (vars_in c) → replacement_of e c ≡ replacement_of f c
  same-one e f (preserved t) a = refl
  same-one e f (simple_block head contents close) a =
      ap (option_map (λ cs. one_component (simple_block head cs close))) (same-all e f contents a)
  same-one e f (function_block head contents close) a =
      same-function (is_var_type head.token_type) e f head contents close
      (same-all e f contents) (same-fallback e f contents) a

  same-all : (e f : Entries) (cs : Components) → Agree e f (all_vars_in cs)
      → replacement_of_all e cs ≡ replacement_of_all f cs
  same-all e f no_components a = refl
  same-all e f (component c cs) a =
      ap₂ both_followed (same-one e f c (agree-front e f (vars_in c) (all_vars_in cs) a))
      (same-all e f cs (agree-back e f (vars_in c) (all_vars_in cs) a))

  same-fallback : (e f : Entries) (cs : Components) → Agree e f (all_vars_in cs)
      → replacement_of_fallback e cs ≡ replacement_of_fallback f cs
  same-fallback e f no_components a = refl
  same-fallback e f (component c cs) a =
      same-after (is_comma c) (replacement_of_all e cs) (replacement_of_all f cs)
      (replacement_of_fallback e cs) (replacement_of_fallback f cs)
      (same-all e f cs (agree-back e f (vars_in c) (all_vars_in cs) a))
      (same-fallback e f cs (agree-back e f (vars_in c) (all_vars_in cs) a))

-- ---- agreement of names

-- the same stands for what one of these refers to
agree-one : (e f : Entries) (o : Option Reference) (names : List Text)
    → AreSameOn e f (cons_option (option_map (λ r. r.name) o) names)
    → option_and_then (λ r. e r.name) o ≡ option_and_then (λ r. f r.name) o
agree-one e f None names a = refl
agree-one e f (Some r) names a = a r.name (rw (text-same r.name) refl)

agree-others : (e f : Entries) (o : Option Text) (names : List Text)
    → AreSameOn e f (cons_option o names) → AreSameOn e f names
agree-others e f None names a = a
agree-others e f (Some n) names a = λ name h. a name (true-or-right (is_same_text name n) (list_any (is_same_text name) names) h)

-- the name to which the contents of a `var()` refer
abbrev name_of : Components → Option Text
name_of contents = option_map (λ r. r.name) (reference_in contents)

agree-all : (e f : Entries) (vars : List Components) → AreSameOn e f (filter_map name_of vars) → Agree e f vars
agree-all e f [] a = tt
agree-all e f (contents ∷ vars) a = (
  agree-one e f (reference_in contents) (filter_map name_of vars) a,
  agree-all e f vars (agree-others e f (name_of contents) (filter_map name_of vars) a),
)

pub same-replacement : (e f : Entries) (value : Components) → AreSameOn e f (names_in value)
    → replacement_of_all e value ≡ replacement_of_all f value
same-replacement e f value a = same-all e f value (agree-all e f (all_vars_in value) a)

pub same-substituted : (e f : Entries) (value : Components) → AreSameOn e f (names_in value)
    → substituted e value ≡ substituted f value
same-substituted e f value a =
    ap (λ o. if has_var value then option_and_then (if_within MAX_SUBSTITUTED_TOKENS MAX_NESTING) o else Some value)
    (same-replacement e f value a)

-- ---- values without `var()`

-- both are empty
no-more : (xs ys : List Components) → nat_lt 0 (length (xs ++ ys)) ≡ false
    → (nat_lt 0 (length xs) ≡ false) × (nat_lt 0 (length ys) ≡ false)
no-more [] ys h = (refl, h)
no-more (x ∷ xs) ys h = absurd (false≢true (sym h ∙ grind (arith, nat_tests)))

kept-function : (is_var : Bool) (e : Entries) (head : Token) (contents : Components) (close : Option Token)
    → (nat_lt 0 (length (all_vars_in contents)) ≡ false → replacement_of_all e contents ≡ Some contents)
    → nat_lt 0 (length (if is_var then contents ∷ all_vars_in contents else all_vars_in contents)) ≡ false
    → (if is_var then option_or (entry_of_reference e contents) (replacement_of_fallback e contents)
    else option_map (λ cs. one_component (function_block head cs close)) (replacement_of_all e contents))
    ≡ Some (one_component (function_block head contents close))
kept-function true e head contents close all h = absurd (false≢true (sym h ∙ grind (arith, nat_tests)))
kept-function false e head contents close all h =
    ap (option_map (λ cs. one_component (function_block head cs close))) (all h)

mutual
  kept-one : (e : Entries) (c : Component) → nat_lt 0 (length (vars_in c)) ≡ false
      → replacement_of e c ≡ Some (one_component c)
  kept-one e (preserved t) h = refl
  kept-one e (simple_block head contents close) h =
      ap (option_map (λ cs. one_component (simple_block head cs close))) (kept-all e contents h)
  kept-one e (function_block head contents close) h =
      kept-function (is_var_type head.token_type) e head contents close (kept-all e contents) h

  pub kept-all : (e : Entries) (cs : Components) → nat_lt 0 (length (all_vars_in cs)) ≡ false
      → replacement_of_all e cs ≡ Some cs
  kept-all e no_components h = refl
  kept-all e (component c cs) h =
      let parts = no-more (vars_in c) (all_vars_in cs) h in
      ap₂ both_followed (kept-one e c parts.0) (kept-all e cs parts.1)

-- ---- one `var()`

-- after the name, the fallback is what is after the first `,`
fallback-after-name : (e : Entries) (name : Text) (cs : Components) (r : Reference) → reference_to name cs ≡ Some r
    → replacement_of_fallback e cs ≡ option_and_then (replacement_of_all e) r.fallback
fallback-after-name e name no_components r h =
    ap (λ x. option_and_then (replacement_of_all e) x.fallback) (same_Some (record { name = name; fallback = None }) r h)
fallback-after-name e name (component c cs) r h = elim (cases_Bool (is_whitespace c)) [
  | inl t ↦ rw (space-no-comma c t) (fallback-after-name e name cs r (rw t at h))
  | inr f ↦ elim (cases_Bool (is_comma c)) [
    | inl t ↦ elim (cases_Bool (is_declaration_value cs)) [
      | inl u ↦
          let made : Reference = record { name = name; fallback = Some cs } in
          rw t (ap (λ x. option_and_then (replacement_of_all e) x.fallback) (same_Some made r (rw (f, t, u) at h)))
      | inr u ↦ absurd (none-some r (rw (f, t, u) at h))
    ]
    | inr u ↦ absurd (none-some r (rw (f, u) at h))
  ]
]

-- the name, where this is the one that the component value is
fallback-at-name : (e : Entries) (o : Option Text) (c : Component) (cs : Components) (r : Reference)
    → custom_name_of c ≡ o → option_and_then (λ name. reference_to name cs) o ≡ Some r
    → replacement_of_fallback e (component c cs) ≡ option_and_then (replacement_of_all e) r.fallback
fallback-at-name e None c cs r n h = absurd (none-some r h)
fallback-at-name e (Some name) c cs r n h = rw (name-no-comma c name n) (fallback-after-name e name cs r h)

fallback-replaced : (e : Entries) (contents : Components) (r : Reference) → reference_in contents ≡ Some r
    → replacement_of_fallback e contents ≡ option_and_then (replacement_of_all e) r.fallback
fallback-replaced e no_components r h = absurd (none-some r h)
fallback-replaced e (component c cs) r h = elim (cases_Bool (is_whitespace c)) [
  | inl t ↦ rw (space-no-comma c t) (fallback-replaced e cs r (rw t at h))
  | inr f ↦ fallback-at-name e (custom_name_of c) c cs r refl (rw f at h)
]

pub reference-replaced : (e : Entries) (head : Token) (contents : Components) (close : Option Token) (r : Reference)
    → is_var_type head.token_type ≡ true → reference_in contents ≡ Some r
    → replacement_of e (function_block head contents close)
    ≡ option_or (e r.name) (option_and_then (replacement_of_all e) r.fallback)
reference-replaced e head contents close r v h =
    rw v (ap₂ option_or (ap (option_and_then (λ x. e x.name)) h) (fallback-replaced e contents r h))
