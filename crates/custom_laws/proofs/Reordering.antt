-- Values in another order are found as before.
use Rattle.std.proofs.Common.{◌≡◌, ◌∙◌, ◌↔◌, ◌||◌, ap, sym, subst, refl, [], ◌∷◌, true, inl, inr, Some, option_map, unwrap_or}
use Rattle.std.specs.List.{list_any}
use Rattle.std.proofs.lemmas.Bool.{cases_Bool, false≢true}
use Rattle.std.proofs.lemmas.Option.{none-some, same_Some}
use Rattle.css_model.specs.Classes.{Text}
use Rattle.css_model.specs.Components.{Components}
use Rattle.page_model.specs.Attributes.{is_same_text}
use Rattle.page_laws.proofs.AttributesInOrder.{same-text, text-same}
use Rattle.page_laws.proofs.Options.{none-or-some, true-or-right}
use Rattle.custom_model.specs.Cycles.{refers, IsReached, directly, through, IsOnCycle}
use Rattle.custom_model.specs.Environments.{EnvironmentGiven, IsEntry, IsEnvironment, entry_of_declared}
use Rattle.custom_model.specs.NamedValues.{NamedValues, value_named, names_of}
use Rattle.custom_model.specs.References.{names_in}
use Rattle.custom_laws.specs.Reordered.{AreDistinct, AreReordered, IsAmong}

-- ---- values and where they stand

among-named : (v : Text × Components) (values : NamedValues) → IsAmong v values
    → list_any (is_same_text v.0) (names_of values) ≡ true
among-named v [] h = absurd h
among-named v (w ∷ values) (inl e) =
    subst (λ n. (is_same_text v.0 n || list_any (is_same_text v.0) (names_of values)) ≡ true) (ap (λ x. x.0) e) (rw (text-same v.0) refl)
among-named v (w ∷ values) (inr h) =
    true-or-right (is_same_text v.0 w.0) (list_any (is_same_text v.0) (names_of values)) (among-named v values h)

first-value : (w : Text × Components) (values : NamedValues) → value_named (w ∷ values) w.0 ≡ Some w.1
first-value w values = rw (text-same w.0) refl

among-value : (v : Text × Components) (values : NamedValues) → AreDistinct (names_of values) → IsAmong v values
    → value_named values v.0 ≡ Some v.1
among-value v [] d h = absurd h
among-value v (w ∷ values) d (inl e) =
    subst (λ (x : Text × Components). value_named (w ∷ values) x.0 ≡ Some x.1) (sym e) (first-value w values)
among-value v (w ∷ values) d (inr h) = elim (cases_Bool (is_same_text v.0 w.0)) [
  | inl t ↦
      let twice : list_any (is_same_text w.0) (names_of values) ≡ true =
      ap (λ n. list_any (is_same_text n) (names_of values)) (sym (same-text v.0 w.0 t)) ∙ among-named v values h in
      absurd (false≢true (sym d.0 ∙ twice))
  | inr f ↦ rw f (among-value v values d.1 h)
]

value-among : (name : Text) (value : Components) (values : NamedValues) → value_named values name ≡ Some value
    → IsAmong (name, value) values
value-among name value [] h = absurd (none-some value h)
value-among name value (w ∷ values) h = elim (cases_Bool (is_same_text name w.0)) [
  | inl t ↦
      let n : name ≡ w.0 = same-text name w.0 t in
      let v : w.1 ≡ value = same_Some w.1 value (rw t at h) in
      inl (λ j. (n j, sym v j))
  | inr f ↦ inr (value-among name value values (rw f at h))
]

-- ---- lists with the same values

pub same-values : (values others : NamedValues) → AreReordered values others → (name : Text)
    → value_named values name ≡ value_named others name
same-values values others r name = elim (none-or-some (value_named values name)) [
  | inl n ↦ elim (none-or-some (value_named others name)) [
    | inl m ↦ n ∙ sym m
    | inr t ↦
        let back = (r.same (name, t.0)).1 (value-among name t.0 others t.1) in
        absurd (none-some t.0 (sym n ∙ among-value (name, t.0) values r.distinct_first back))
  ]
  | inr s ↦
      let there = (r.same (name, s.0)).0 (value-among name s.0 values s.1) in
      s.1 ∙ sym (among-value (name, s.0) others r.distinct_second there)
]

-- ---- what is found by names one_component

same-refers : (values others : NamedValues) → ((name : Text) → value_named values name ≡ value_named others name)
    → (from to : Text) → refers values from to ≡ refers others from to
same-refers values others same from to =
    ap (λ o. list_any (is_same_text to) (unwrap_or (option_map names_in o) [])) (same from)

same-reached : (values others : NamedValues) → ((name : Text) → value_named values name ≡ value_named others name)
    → (from to : Text) → IsReached values from to → IsReached others from to
same-reached values others same from to (directly h) = directly (sym (same-refers values others same from to) ∙ h)
same-reached values others same from to (through via h r) =
    through via (sym (same-refers values others same from via) ∙ h) (same-reached values others same via to r)

pub same-cycles : (values others : NamedValues) (name : Text) → AreReordered values others
    → IsOnCycle values name ↔ IsOnCycle others name
same-cycles values others name r =
    let same = same-values values others r in (
      same-reached values others same name name,
      same-reached others values (λ n. sym (same n)) name name,
    )

same-entry : (g h : EnvironmentGiven) (environment : NamedValues)
    → ((name : Text) → value_named g.declared name ≡ value_named h.declared name)
    → ((name : Text) → value_named g.inherited name ≡ value_named h.inherited name)
    → (name : Text) → IsEntry g environment name → IsEntry h environment name
same-entry g h environment declared inherited name e = record {
  not_declared = λ d. e.not_declared (declared name ∙ d) ∙ inherited name;
  on_cycle = λ c. e.on_cycle (same-reached h.declared g.declared (λ n. sym (declared n)) name name c) ∙ inherited name;
  declared = λ value d off.
      e.declared value (declared name ∙ d) (λ c. off (same-reached g.declared h.declared declared name name c))
      ∙ ap (λ parent. entry_of_declared (value_named environment) parent value) (inherited name);
}

pub same-environment : (g h : EnvironmentGiven) (environment : NamedValues)
    → AreReordered g.declared h.declared → AreReordered g.inherited h.inherited
    → IsEnvironment g environment → IsEnvironment h environment
same-environment g h environment d i e = record {
  in_order = e.in_order;
  entries = λ name.
      same-entry g h environment (same-values g.declared h.declared d) (same-values g.inherited h.inherited i) name (e.entries name);
}
