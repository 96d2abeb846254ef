-- Entries are determined: by two environments, and by two numbers of substitutions.
use Rattle.std.proofs.Common.{◌≡◌, ◌∙◌, ap, sym, refl, ℕ, zero, suc, ◌<◌, [], true, false, inl, inr, Option, Some, None, option_map, unwrap_or, arith}
use Rattle.std.specs.List.{list_any}
use Rattle.std.proofs.lemmas.Bool.{cases_Bool, false≢true}
use Rattle.css_model.specs.Classes.{Text}
use Rattle.css_model.specs.Components.{Components}
use Rattle.page_model.specs.Attributes.{is_same_text}
use Rattle.page_laws.proofs.Options.{none-or-some}
use Rattle.custom_model.specs.Cycles.{refers, IsOnCycle}
use Rattle.custom_model.specs.Environments.{EnvironmentGiven, IsEntry, entry_of_declared, entry_of_substituted}
use Rattle.custom_model.specs.NamedValues.{NamedValues, value_named}
use Rattle.custom_model.specs.References.{names_in}
use Rattle.custom_model.specs.Substitution.{Entries}
use Rattle.custom_model.specs.inner.Finding.{is_on_cycle, entry_of_named, entry_within}
use Rattle.custom_laws.proofs.Ranks.{rank, rank-less}
use Rattle.custom_laws.proofs.Reached.{cycle-both, named-among}
use Rattle.custom_laws.proofs.Replacements.{same-substituted}

-- a name that is not found to be on a cycle is on none
pub off-cycle : (declared : NamedValues) (name : Text) → is_on_cycle declared name ≡ false → IsOnCycle declared name → ⊥
off-cycle declared name f c = false≢true (sym f ∙ (cycle-both declared name).1 c)

-- a value refers to the names in it
pub refers-in : (declared : NamedValues) (name to : Text) (value : Components) → value_named declared name ≡ Some value
    → list_any (is_same_text to) (names_in value) ≡ true → refers declared name to ≡ true
refers-in declared name to value d h = ap (λ o. list_any (is_same_text to) (unwrap_or (option_map names_in o) [])) d ∙ h

pub same-declared : (e f : Entries) (parent : Option Components) (value : Components)
    → ((name : Text) → list_any (is_same_text name) (names_in value) ≡ true → e name ≡ f name)
    → entry_of_declared e parent value ≡ entry_of_declared f parent value
same-declared e f parent value a = ap (entry_of_substituted parent) (same-substituted e f value a)

-- ---- two environments

module _ (g : EnvironmentGiven) (environment other : NamedValues)
    (first : (name : Text) → IsEntry g environment name) (second : (name : Text) → IsEntry g other name) where
  -- a name to which another refers
  below : (name to : Text) → refers g.declared name to ≡ true
      → ((to : Text) → rank g.declared to < rank g.declared name → value_named environment to ≡ value_named other to)
      → value_named environment to ≡ value_named other to
  below name to h lower = elim (cases_Bool (is_on_cycle g.declared to)) [
    | inl t ↦
        let c : IsOnCycle g.declared to = (cycle-both g.declared to).0 t in
        (first to).on_cycle c ∙ sym ((second to).on_cycle c)
    | inr f ↦ elim (none-or-some (value_named g.declared to)) [
      | inl n ↦ (first to).not_declared n ∙ sym ((second to).not_declared n)
      | inr s ↦ lower to (rank-less g.declared name to h (named-among g.declared to s.0 s.1) f)
    ]
  ]

  -- a name, where those of lower rank have the same entries
  step : (name : Text)
      → ((to : Text) → rank g.declared to < rank g.declared name → value_named environment to ≡ value_named other to)
      → value_named environment name ≡ value_named other name
  step name lower = elim (cases_Bool (is_on_cycle g.declared name)) [
    | inl t ↦
        let c : IsOnCycle g.declared name = (cycle-both g.declared name).0 t in
        (first name).on_cycle c ∙ sym ((second name).on_cycle c)
    | inr f ↦ elim (none-or-some (value_named g.declared name)) [
      | inl n ↦ (first name).not_declared n ∙ sym ((second name).not_declared n)
      | inr s ↦
          let off : IsOnCycle g.declared name → ⊥ = off-cycle g.declared name f in
          (first name).declared s.0 s.1 off
          ∙ (same-declared (value_named environment) (value_named other) (value_named g.inherited name) s.0
          (λ to h. below name to (refers-in g.declared name to s.0 s.1 h) lower)
          ∙ sym ((second name).declared s.0 s.1 off))
    ]
  ]

  same-below : (k : ℕ) (name : Text) → rank g.declared name < k → value_named environment name ≡ value_named other name
  same-below zero name l = absurd (omega (arith, l))
  same-below (suc k) name l = step name (λ to m. same-below k to (omega (arith, l, m)))

  pub same-entries : (name : Text) → value_named environment name ≡ value_named other name
  same-entries name = same-below (suc (rank g.declared name)) name (omega arith)

-- ---- two numbers of substitutions

pub entry-on-cycle : (n : ℕ) (g : EnvironmentGiven) (name : Text) → is_on_cycle g.declared name ≡ true
    → entry_within n g name ≡ value_named g.inherited name
entry-on-cycle zero g name t = refl
entry-on-cycle (suc n) g name t = rw t refl

pub entry-not-declared : (n : ℕ) (g : EnvironmentGiven) (name : Text) → value_named g.declared name ≡ None
    → entry_within n g name ≡ value_named g.inherited name
entry-not-declared zero g name d = refl
entry-not-declared (suc n) g name d = elim (cases_Bool (is_on_cycle g.declared name)) [
  | inl t ↦ rw t refl
  | inr f ↦ rw (f, d) refl
]

pub entry-declared : (n : ℕ) (g : EnvironmentGiven) (name : Text) (value : Components) → is_on_cycle g.declared name ≡ false
    → value_named g.declared name ≡ Some value
    → entry_within (suc n) g name ≡ entry_of_declared (entry_within n g) (value_named g.inherited name) value
entry-declared n g name value f d = rw f (ap (entry_of_named (entry_within n g) (value_named g.inherited name)) d)

-- a name to which another refers, where those of lower rank have the same entries
pub stable-below : (m n : ℕ) (g : EnvironmentGiven) (name to : Text) → refers g.declared name to ≡ true
    → ((to : Text) → rank g.declared to < rank g.declared name → entry_within m g to ≡ entry_within n g to)
    → entry_within m g to ≡ entry_within n g to
stable-below m n g name to h lower = elim (cases_Bool (is_on_cycle g.declared to)) [
  | inl t ↦ entry-on-cycle m g to t ∙ sym (entry-on-cycle n g to t)
  | inr f ↦ elim (none-or-some (value_named g.declared to)) [
    | inl d ↦ entry-not-declared m g to d ∙ sym (entry-not-declared n g to d)
    | inr s ↦ lower to (rank-less g.declared name to h (named-among g.declared to s.0 s.1) f)
  ]
]

-- more substitutions than a name has rank change nothing
pub entry-stable : (m n : ℕ) (g : EnvironmentGiven) (name : Text) → rank g.declared name < m → rank g.declared name < n
    → entry_within m g name ≡ entry_within n g name
entry-stable zero n g name l k = absurd (omega (arith, l))
entry-stable (suc m) zero g name l k = absurd (omega (arith, k))
entry-stable (suc m) (suc n) g name l k =
    let lower : (to : Text) → rank g.declared to < rank g.declared name → entry_within m g to ≡ entry_within n g to =
    λ to less. entry-stable m n g to (omega (arith, l, less)) (omega (arith, k, less)) in
    elim (cases_Bool (is_on_cycle g.declared name)) [
      | inl t ↦ entry-on-cycle (suc m) g name t ∙ sym (entry-on-cycle (suc n) g name t)
      | inr f ↦ elim (none-or-some (value_named g.declared name)) [
        | inl d ↦ entry-not-declared (suc m) g name d ∙ sym (entry-not-declared (suc n) g name d)
        | inr s ↦
            entry-declared m g name s.0 f s.1
            ∙ (same-declared (entry_within m g) (entry_within n g) (value_named g.inherited name) s.0
            (λ to h. stable-below m n g name to (refers-in g.declared name to s.0 s.1 h) lower)
            ∙ sym (entry-declared n g name s.0 f s.1))
      ]
    ]
