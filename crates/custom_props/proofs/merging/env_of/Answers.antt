use Rattle.std.proofs.Common.{◌≡◌, ◌∙◌, ap, rules}
use Rattle.custom_model.specs.NamedValues.{are_in_order, names_of}
use Rattle.custom_props.specs.Views.{values_view}
use Rattle.custom_props.specs.inner.Merging.{merged, named_entries}
use Rattle.custom_props.proofs.MergedEntries.{merged-order, names-of-entries}
use Rattle.custom_props.proofs.merging.env_of.Goals as goal

pub invariant_of-result : goal.invariant_of-result
invariant_of-result c =
    let same : values_view c.in_ok-values.values
    ≡ merged (named_entries (values_view c.args.declared.now.values) c.args.entries.now) (values_view c.args.inherited.now.values) =
    search rules in
    record {
      order =
          ap (λ vs. are_in_order (names_of vs)) same
          ∙ merged-order (named_entries (values_view c.args.declared.now.values) c.args.entries.now)
          (values_view c.args.inherited.now.values)
          (ap are_in_order (names-of-entries (values_view c.args.declared.now.values) c.args.entries.now) ∙ c.args.declared.now.order)
          c.args.inherited.now.order;
    }
