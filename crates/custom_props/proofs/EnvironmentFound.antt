-- A table of entries and what is inherited are the environment.
use Rattle.std.proofs.Common.{◌≡◌, ◌∙◌, ap, sym, refl, ℕ, ◌<◌, List, [], length, true, Option, Some, None, Result, Ok, Err, IfOk, arith}
use Rattle.std.proofs.lemmas.Option.{none-some}
use Rattle.css_model.specs.Classes.{Text}
use Rattle.css_model.specs.Components.{Components}
use Rattle.custom_model.specs.Cycles.{IsReached, directly, through}
use Rattle.custom_model.specs.Environments.{EnvironmentGiven, IsEnvironment}
use Rattle.custom_model.specs.NamedValues.{NamedValues, are_in_order, names_of, value_named}
use Rattle.custom_laws.proofs.Entries.{same-declared}
use Rattle.custom_laws.proofs.Reached.{refers-named}
use Rattle.custom_props.specs.inner.Entries.{entries_among, entry_at}
use Rattle.custom_props.specs.inner.EntryViews.{entry_in}
use Rattle.custom_props.specs.inner.Merging.{merged, named_entries}
use Rattle.custom_props.specs.inner.Places.{place_of}
use Rattle.custom_props.specs.inner.Tables.{IsTable}
use Rattle.custom_props.specs.declared.entry.Entry.{Entry}
use Rattle.custom_props.proofs.Bridge.{leads-on-cycle, on-cycle-leads, place-named, place-within, value-in-place}
use Rattle.custom_props.proofs.FilledTables.{names-length}
use Rattle.custom_props.proofs.MergedEntries.{entry_names, entry-by-place, merged-order, merged-value, names-of-entries}

-- a name that is reached from has a value
cycle-named : (declared : NamedValues) (name to : Text) → IsReached declared name to
    → (value : Components) × (value_named declared name ≡ Some value)
cycle-named declared name to (directly h) = refers-named declared name to h
cycle-named declared name to (through via h r) = refers-named declared name via h

place-none : (declared : NamedValues) (name : Text) → value_named declared name ≡ None
    → place_of name (names_of declared) ≡ None
place-none declared name d = by-place (place_of name (names_of declared)) refl
  where
    by-place : (place : Option ℕ) → place_of name (names_of declared) ≡ place → place ≡ None
    by-place None p = refl
    by-place (Some x) p =
        let here = value-in-place (λ v. []) declared name x p in absurd (none-some here.0 (sym d ∙ here.1))

pub environment_found : (g : EnvironmentGiven) (entries : List Entry) (environment : NamedValues)
    → are_in_order (names_of g.declared) ≡ true → are_in_order (names_of g.inherited) ≡ true
    → environment ≡ merged (named_entries g.declared entries) g.inherited → IsTable g entries
    → IsEnvironment g environment
environment_found g entries environment o i e table = record {
  in_order =
      ap (λ vs. are_in_order (names_of vs)) e ∙ merged-order (named_entries g.declared entries) g.inherited order i;
  entries = λ name. record {
    not_declared = λ d.
        value name ∙ ap (entry_at g.inherited entries name) (place-none g.declared name d);
    on_cycle = λ c.
        let named = cycle-named g.declared name name c in
        let place = place-named g.declared name named.0 named.1 in
        at-place name place.0 place.1
        ∙ table.2.on_cycle name place.0 place.1 (on-cycle-leads g.declared name place.0 place.1 c);
    declared = λ v d off.
        let place = place-named g.declared name v d in
        let within : place.0 < length g.declared =
        omega (arith, place-within name (names_of g.declared) place.0 place.1, names-length g.declared) in
        at-place name place.0 place.1
        ∙ (table.2.off_cycle name place.0 v place.1 (table.1 place.0 within) d
        (λ l. off (leads-on-cycle g.declared name place.0 place.1 l))
        ∙ same-declared (entries_among g entries) (value_named environment) (value_named g.inherited name) v
        (λ m h. sym (value m)));
  };
}
  where
    order : are_in_order (entry_names (named_entries g.declared entries)) ≡ true
    order = ap are_in_order (names-of-entries g.declared entries) ∙ o

    value : (name : Text) → value_named environment name ≡ entries_among g entries name
    value name =
        ap (λ vs. value_named vs name) e
        ∙ (merged-value (named_entries g.declared entries) g.inherited name order i
        ∙ entry-by-place g.inherited g.declared entries name table.2.same_length)

    at-place : (name : Text) (x : ℕ) → place_of name (names_of g.declared) ≡ Some x
        → value_named environment name ≡ entry_in entries x
    at-place name x p = value name ∙ ap (entry_at g.inherited entries name) p

pub ok-then : {X E : Type 0} (r : Result X E) (P Q : X → Type 0) → ((x : X) → P x → Q x) → IfOk r P → IfOk r Q
ok-then (Ok x) P Q h p = h x p
ok-then (Err e) P Q h p = tt
