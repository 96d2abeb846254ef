-- No `var()` is left after substitution, nor in an environment.
use Rattle.std.proofs.Common.{◌≡◌, ◌∙◌, ap, ap₂, sym, refl, ℕ, zero, suc, length, nat_lt, if◌then◌else◌, List, [], ◌∷◌, ◌++◌, append-nil, append_assoc, Bool, true, false, inl, inr, Option, Some, None, option_map, option_and_then, arith}
use Rattle.std.specs.Option.{option_map_or, option_or}
use Rattle.std.proofs.lemmas.Bool.{cases_Bool, false≢true}
use Rattle.std.proofs.lemmas.Bool.Decides.{nat_tests}
use Rattle.std.proofs.lemmas.Option.{none-some, same_Some}
use Rattle.css_model.specs.declared.token.TheConstants.{MAX_NESTING}
use Rattle.css_model.specs.declared.token.Token.{Token}
use Rattle.css_model.specs.Components.{Component, preserved, simple_block, function_block, Components, no_components, component}
use Rattle.css_model.specs.inner.Nesting.{followed}
use Rattle.page_laws.proofs.Options.{none-or-some}
use Rattle.value_model.specs.declared.wide_keyword.WideKeyword.{WideKeyword}
use Rattle.value_model.specs.declared.wide_keyword.WideKeyword.TheVariants.{Initial}
use Rattle.value_model.specs.Grammar.{wide_keyword_of}
use Rattle.value_model.specs.Words.{words_of}
use Rattle.custom_model.specs.declared.limits.TheConstants.{MAX_SUBSTITUTED_TOKENS}
use Rattle.custom_model.specs.Environments.{EnvironmentGiven, IsEnvironment, entry_of_keyword, entry_of_substituted}
use Rattle.custom_model.specs.NamedValues.{NamedValues, value_named}
use Rattle.custom_model.specs.References.{Reference, has_var, is_comma, is_var_type, reference_in, vars_in, all_vars_in}
use Rattle.custom_model.specs.Substitution.{Entries, one_component, both_followed, if_within, is_within, replacement_of, replacement_of_all, replacement_of_fallback, substituted, substituted_within}
use Rattle.custom_model.specs.inner.Finding.{entry_of_named, entry_within, environment_of, is_on_cycle}
use Rattle.custom_laws.specs.SameEntries.{AreWithoutVar}
use Rattle.custom_laws.proofs.Found.{entry-is, found-environment, one-environment}

no-vars : (xs : List Components) → nat_lt 0 (length xs) ≡ false → xs ≡ []
no-vars [] h = refl
no-vars (x ∷ xs) h = absurd (false≢true (sym h ∙ grind (arith, nat_tests)))

some-vars : (xs : List Components) → xs ≡ [] → nat_lt 0 (length xs) ≡ false
some-vars xs h = rw h refl

vars-followed : (cs ds : Components) → all_vars_in (followed cs ds) ≡ all_vars_in cs ++ all_vars_in ds
vars-followed no_components ds = refl
vars-followed (component c cs) ds =
    ap (λ xs. vars_in c ++ xs) (vars-followed cs ds) ∙ sym (append_assoc (vars_in c) (all_vars_in cs) (all_vars_in ds))

-- ---- what is replaced

-- a block around what is replaced
left-block : (head : Token) (close : Option Token) (p : Option Components) (r : Components)
    → ((s : Components) → p ≡ Some s → all_vars_in s ≡ [])
    → option_map (λ cs. one_component (simple_block head cs close)) p ≡ Some r → all_vars_in r ≡ []
left-block head close None r free h = absurd (none-some r h)
left-block head close (Some s) r free h =
    ap all_vars_in (sym (same_Some (one_component (simple_block head s close)) r h))
    ∙ (append-nil (all_vars_in s) ∙ free s refl)

left-function : (head : Token) (close : Option Token) (p : Option Components) (r : Components)
    → is_var_type head.token_type ≡ false → ((s : Components) → p ≡ Some s → all_vars_in s ≡ [])
    → option_map (λ cs. one_component (function_block head cs close)) p ≡ Some r → all_vars_in r ≡ []
left-function head close None r f free h = absurd (none-some r h)
left-function head close (Some s) r f free h =
    ap all_vars_in (sym (same_Some (one_component (function_block head s close)) r h))
    ∙ rw f (append-nil (all_vars_in s) ∙ free s refl)

left-entry : (e : Entries) (o : Option Reference) (p : Option Components) (r : Components) → AreWithoutVar e
    → ((s : Components) → p ≡ Some s → all_vars_in s ≡ [])
    → option_or (option_and_then (λ x. e x.name) o) p ≡ Some r → all_vars_in r ≡ []
left-entry e None p r free rest h = rest r h
left-entry e (Some x) p r free rest h = elim (none-or-some (e x.name)) [
  | inl n ↦ rest r (rw n at h)
  | inr s ↦
      let same : s.0 ≡ r = same_Some s.0 r (rw s.1 at h) in
      ap all_vars_in (sym same) ∙ no-vars (all_vars_in s.0) (free x.name s.0 s.1)
]

left-both : (o p : Option Components) (r : Components) → ((s : Components) → o ≡ Some s → all_vars_in s ≡ [])
    → ((s : Components) → p ≡ Some s → all_vars_in s ≡ []) → both_followed o p ≡ Some r → all_vars_in r ≡ []
left-both None p r first second h = absurd (none-some r h)
left-both (Some s) None r first second h = absurd (none-some r h)
left-both (Some s) (Some t) r first second h =
    ap all_vars_in (sym (same_Some (followed s t) r h))
    ∙ (vars-followed s t ∙ ap₂ (λ xs ys. xs ++ ys) (first s refl) (second t refl))

left-after : (comma : Bool) (o p : Option Components) (r : Components) → ((s : Components) → o ≡ Some s → all_vars_in s ≡ [])
    → ((s : Components) → p ≡ Some s → all_vars_in s ≡ []) → (if comma then o else p) ≡ Some r → all_vars_in r ≡ []
left-after true o p r first second h = first r h
left-after false o p r first second h = second r h

mutual
  left-one : (e : Entries) → AreWithoutVar e → (c : Component) (r : Components) → replacement_of e c ≡ Some r → all_vars_in r ≡ []
  left-one e free (preserved t) r h = ap all_vars_in (sym (same_Some (one_component (preserved t)) r h))
  left-one e free (simple_block head contents close) r h =
      left-block head close (replacement_of_all e contents) r (left-all e free contents) h
  left-one e free (function_block head contents close) r h = elim (cases_Bool (is_var_type head.token_type)) [
    | inl t ↦
        left-entry e (reference_in contents) (replacement_of_fallback e contents) r free (left-fallback e free contents) (rw t at h)
    | inr f ↦ left-function head close (replacement_of_all e contents) r f (left-all e free contents) (rw f at h)
  ]

  left-all : (e : Entries) → AreWithoutVar e → (cs r : Components) → replacement_of_all e cs ≡ Some r → all_vars_in r ≡ []
  left-all e free no_components r h = ap all_vars_in (sym (same_Some no_components r h))
  left-all e free (component c cs) r h =
      left-both (replacement_of e c) (replacement_of_all e cs) r (left-one e free c) (left-all e free cs) h

  left-fallback : (e : Entries) → AreWithoutVar e → (cs r : Components) → replacement_of_fallback e cs ≡ Some r → all_vars_in r ≡ []
  left-fallback e free no_components r h = absurd (none-some r h)
  left-fallback e free (component c cs) r h =
      left-after (is_comma c) (replacement_of_all e cs) (replacement_of_fallback e cs) r (left-all e free cs) (left-fallback e free cs) h

-- ---- after substitution

if-within : (o : Option Components) (r : Components) → option_and_then (if_within MAX_SUBSTITUTED_TOKENS MAX_NESTING) o ≡ Some r
    → o ≡ Some r
if-within None r h = h
if-within (Some s) r h = elim (cases_Bool (is_within MAX_SUBSTITUTED_TOKENS MAX_NESTING s)) [
  | inl t ↦ rw t at h
  | inr f ↦ absurd (none-some r (rw f at h))
]

-- what is left is within the limits
within-kept : (tokens levels : ℕ) (o : Option Components) (r : Components) → option_and_then (if_within tokens levels) o ≡ Some r
    → is_within tokens levels r ≡ true
within-kept tokens levels None r h = absurd (none-some r h)
within-kept tokens levels (Some s) r h = elim (cases_Bool (is_within tokens levels s)) [
  | inl t ↦ ap (is_within tokens levels) (sym (same_Some s r (rw t at h))) ∙ t
  | inr f ↦ absurd (none-some r (rw f at h))
]

pub within-limits : (tokens levels : ℕ) (e : Entries) (value r : Components) → has_var value ≡ true
    → substituted_within tokens levels e value ≡ Some r → is_within tokens levels r ≡ true
within-limits tokens levels e value r v h = within-kept tokens levels (replacement_of_all e value) r (rw v at h)

pub none-left : (e : Entries) (value r : Components) → AreWithoutVar e → substituted e value ≡ Some r → has_var r ≡ false
none-left e value r free h = elim (cases_Bool (has_var value)) [
  | inl t ↦ some-vars (all_vars_in r) (left-all e free value r (if-within (replacement_of_all e value) r (rw t at h)))
  | inr f ↦ ap has_var (sym (same_Some value r (rw f at h))) ∙ f
]

-- ---- in an environment

keyword-free : (o : Option WideKeyword) (parent : Option Components) (value r : Components)
    → ((s : Components) → parent ≡ Some s → has_var s ≡ false) → has_var value ≡ false
    → option_map_or (entry_of_keyword parent) o (Some value) ≡ Some r → has_var r ≡ false
keyword-free None parent value r p v h = ap has_var (sym (same_Some value r h)) ∙ v
keyword-free (Some Initial) parent value r p v h = absurd (none-some r h)
keyword-free (Some other) parent value r p v h = p r h

substituted-free : (o parent : Option Components) (r : Components) → ((s : Components) → parent ≡ Some s → has_var s ≡ false)
    → ((s : Components) → o ≡ Some s → has_var s ≡ false) → entry_of_substituted parent o ≡ Some r → has_var r ≡ false
substituted-free None parent r p v h = p r h
substituted-free (Some value) parent r p v h =
    keyword-free (wide_keyword_of (words_of value)) parent value r p (v value refl) h

named-free : (e : Entries) (o parent : Option Components) (r : Components) → AreWithoutVar e
    → ((s : Components) → parent ≡ Some s → has_var s ≡ false) → entry_of_named e parent o ≡ Some r → has_var r ≡ false
named-free e None parent r free p h = p r h
named-free e (Some value) parent r free p h =
    substituted-free (substituted e value) parent r p (λ s k. none-left e value s free k) h

within-free : (n : ℕ) (g : EnvironmentGiven) → AreWithoutVar (value_named g.inherited) → AreWithoutVar (entry_within n g)
within-free zero g free name r h = free name r h
within-free (suc n) g free name r h = elim (cases_Bool (is_on_cycle g.declared name)) [
  | inl t ↦ free name r (rw t at h)
  | inr f ↦
      named-free (entry_within n g) (value_named g.declared name) (value_named g.inherited name) r (within-free n g free)
      (free name) (rw f at h)
]

pub environment-free : (g : EnvironmentGiven) (environment : NamedValues) → IsEnvironment g environment
    → AreWithoutVar (value_named g.inherited) → AreWithoutVar (value_named environment)
environment-free g environment is free name r h =
    let same : environment ≡ environment_of g = one-environment g environment (environment_of g) is (found-environment g) in
    within-free (suc (length g.declared)) g free name r
    (sym (entry-is g name) ∙ (ap (λ env. value_named env name) (sym same) ∙ h))
