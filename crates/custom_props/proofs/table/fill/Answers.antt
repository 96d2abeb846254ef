use Rattle.std.proofs.Common.{◌≡◌, ◌∙◌, ◌<◌, length, inr, refl, sym, subst, arith, rules, Some}
use Rattle.std.specs.Prelude.{slice_get}
use Rattle.std.proofs.lemmas.Bool.{false≢true}
use Rattle.css_tokens.specs.Nested.{components_view}
use Rattle.custom_props.specs.EnvView.{env_view}
use Rattle.custom_props.specs.inner.EntryViews.{entry_view}
use Rattle.custom_props.specs.inner.Graphs.{Graph, IsWithin, Leads}
use Rattle.custom_props.proofs.Bridge.{graph-within}
use Rattle.custom_props.proofs.FilledTables.{entry_by_same, entry_of_place, view-length}
use Rattle.custom_props.proofs.table.fill.Goals as goal

pub is_on_cycle_beside-requires-clause-within : goal.is_on_cycle_beside-requires-clause-within
is_on_cycle_beside-requires-clause-within c =
    subst (λ (h : Graph). IsWithin h) (sym c.requires.graph) (graph-within (env_view c.args.declared.now))

pub returns : goal.returns
returns c =
    let within : c.args.place < length c.args.declared.now.values = search rules in
    let stands : slice_get c.args.declared.now.values c.args.place ≡ Some c.in-Some.declaration.now = search rules in
    let off : Leads c.args.graph.now c.args.place c.args.place → ⊥ =
    λ l. false≢true (sym c.if-branch.false ∙ c.in_ok-is_on_cycle_beside.ensures.1 l) in
    inr (
      omega (arith, within, view-length c.args.declared.now.values),
      (λ l. off (subst (λ (h : Graph). Leads h c.args.place c.args.place) (sym c.requires.graph) l)),
      c.in_ok-entry.entry,
      entry_of_place (record { declared = env_view c.args.declared.now; inherited = env_view c.args.inherited.now })
          c.args.declared.now.values c.args.table.now.entries c.args.place c.in-Some.declaration.now c.in_ok-entry.entry refl
          stands
          (entry_by_same c.args.declared.now.values c.as_slice.result.now c.args.inherited.now.values c.as_slice-3.result.now
          c.args.table.now.entries c.as_slice-2.result.now (entry_view c.in_ok-entry.entry) c.in-Some.declaration.now.name
          (components_view c.in-Some.declaration.now.value.value) c.as_slice.ensures c.as_slice-2.ensures c.as_slice-3.ensures
          c.in_ok-entry.ensures),
      c.put.ensures.entries,
      c.put.ensures.marks,
    )
