-- The environment that is found is one, and there is no other.
use Rattle.std.proofs.Common.{◌≡◌, ◌∙◌, ap, sym, refl, suc, length, List, [], ◌∷◌, ◌++◌, ◌||◌, Bool, true, false, inl, inr, Some, None, arith}
use Rattle.std.specs.List.{list_any}
use Rattle.std.proofs.lemmas.Bool.{cases_Bool, false≢true}
use Rattle.css_model.specs.Classes.{Text}
use Rattle.css_model.specs.Components.{Components}
use Rattle.page_model.specs.Attributes.{is_same_text}
use Rattle.page_laws.proofs.Options.{none-or-some, or-false}
use Rattle.custom_model.specs.Cycles.{IsOnCycle}
use Rattle.custom_model.specs.Environments.{EnvironmentGiven, IsEntry, IsEnvironment}
use Rattle.custom_model.specs.NamedValues.{NamedValues, value_named, names_of}
use Rattle.custom_model.specs.References.{names_in}
use Rattle.custom_model.specs.inner.Finding.{is_on_cycle, entry_within, entry_of, ordered_names, environment_of}
use Rattle.custom_laws.proofs.Entries.{entry-declared, entry-not-declared, entry-on-cycle, entry-stable, refers-in, same-declared, same-entries, stable-below}
use Rattle.custom_laws.proofs.Ordered.{any-in-order, entries-in-order, entry-found, entry-missing, names-in-order, same-list}
use Rattle.custom_laws.proofs.Ranks.{rank-at-most}
use Rattle.custom_laws.proofs.Reached.{cycle-both, named-among}

-- ---- the names

pub any-of-both : (test : Text → Bool) (ns ms : List Text) → list_any test (ns ++ ms) ≡ (list_any test ns || list_any test ms)
any-of-both test [] ms = refl
any-of-both test (n ∷ ns) ms = ap (λ x. test n || x) (any-of-both test ns ms) ∙ grouped (test n) (list_any test ns) (list_any test ms)
  where
    grouped : (a b c : Bool) → (a || (b || c)) ≡ ((a || b) || c)
    grouped true b c = refl
    grouped false b c = refl

pub names-of-both : (values others : NamedValues) → names_of (values ++ others) ≡ names_of values ++ names_of others
names-of-both [] others = refl
names-of-both (v ∷ values) others = ap (λ ns. v.0 ∷ ns) (names-of-both values others)

-- a name that is not among those of a list has no value
pub not-among-named : (values : NamedValues) (name : Text) → list_any (is_same_text name) (names_of values) ≡ false
    → value_named values name ≡ None
not-among-named values name h = elim (none-or-some (value_named values name)) [
  | inl n ↦ n
  | inr s ↦ absurd (false≢true (sym h ∙ named-among values name s.0 s.1))
]

-- ---- the entries

not-among-entry : (g : EnvironmentGiven) (name : Text)
    → list_any (is_same_text name) (ordered_names (names_of (g.declared ++ g.inherited))) ≡ false → entry_of g name ≡ None
not-among-entry g name h =
    let all : list_any (is_same_text name) (names_of (g.declared ++ g.inherited)) ≡ false =
    sym (any-in-order name (names_of (g.declared ++ g.inherited))) ∙ h in
    let parts = or-false (list_any (is_same_text name) (names_of g.declared)) (list_any (is_same_text name) (names_of g.inherited))
    (sym (any-of-both (is_same_text name) (names_of g.declared) (names_of g.inherited))
    ∙ (ap (list_any (is_same_text name)) (sym (names-of-both g.declared g.inherited)) ∙ all)) in
    entry-not-declared (suc (length g.declared)) g name (not-among-named g.declared name parts.0)
    ∙ not-among-named g.inherited name parts.1

pub entry-is : (g : EnvironmentGiven) (name : Text) → value_named (environment_of g) name ≡ entry_of g name
entry-is g name = elim (cases_Bool (list_any (is_same_text name) (ordered_names (names_of (g.declared ++ g.inherited))))) [
  | inl t ↦ entry-found (entry_of g) (ordered_names (names_of (g.declared ++ g.inherited))) name t
  | inr f ↦
      entry-missing (entry_of g) (ordered_names (names_of (g.declared ++ g.inherited))) name f
      ∙ sym (not-among-entry g name f)
]

-- a name to which a name refers has its entry with one substitution less
less-is : (g : EnvironmentGiven) (name to : Text) (value : Components) → value_named g.declared name ≡ Some value
    → list_any (is_same_text to) (names_in value) ≡ true
    → entry_within (length g.declared) g to ≡ entry_of g to
less-is g name to value d h =
    stable-below (length g.declared) (suc (length g.declared)) g name to (refers-in g.declared name to value d h) (λ m less.
    let most = rank-at-most g.declared name in
    entry-stable (length g.declared) (suc (length g.declared)) g m (omega (arith, most, less)) (omega (arith, most, less)))

pub entry-is-right : (g : EnvironmentGiven) (name : Text) → IsEntry g (environment_of g) name
entry-is-right g name = record {
  not_declared = λ d. entry-is g name ∙ entry-not-declared (suc (length g.declared)) g name d;
  on_cycle = λ c. entry-is g name ∙ entry-on-cycle (suc (length g.declared)) g name ((cycle-both g.declared name).1 c);
  declared = λ value d off.
      entry-is g name
      ∙ (entry-declared (length g.declared) g name value (is-off off) d
      ∙ same-declared (entry_within (length g.declared) g) (value_named (environment_of g)) (value_named g.inherited name) value
      (λ to h. less-is g name to value d h ∙ sym (entry-is g to)));
}
  where
    is-off : (IsOnCycle g.declared name → ⊥) → is_on_cycle g.declared name ≡ false
    is-off off = elim (cases_Bool (is_on_cycle g.declared name)) [
      | inl t ↦ absurd (off ((cycle-both g.declared name).0 t))
      | inr f ↦ f
    ]

pub found-environment : (g : EnvironmentGiven) → IsEnvironment g (environment_of g)
found-environment g = record {
  in_order =
      entries-in-order (entry_of g) (ordered_names (names_of (g.declared ++ g.inherited)))
      (names-in-order (names_of (g.declared ++ g.inherited)));
  entries = entry-is-right g;
}

pub one-environment : (g : EnvironmentGiven) (environment other : NamedValues) → IsEnvironment g environment → IsEnvironment g other
    → environment ≡ other
one-environment g environment other e f =
    same-list environment other e.in_order f.in_order (same-entries g environment other e.entries f.entries)
