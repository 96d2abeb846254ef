use Rattle.std.proofs.Common.{◌≡◌, ◌∙◌, ap, sym, drop, [], ◌++◌}
use Rattle.std.proofs.lemmas.List.{append-nil, drop_all}
use Rattle.custom_model.specs.NamedValues.{are_in_order, names_of}
use Rattle.custom_props.specs.Views.{values_view}
use Rattle.cascade_core.specs.inner.Customs.{custom_values}
use Rattle.cascade_core.proofs.CustomWinners.{values-in-order}
use Rattle.cascade_core.proofs.customs.Customs.declared.Goals as goal

pub from_values-requires : goal.from_values-requires
from_values-requires c =
    let rest : drop c.loop-winner.winner-index c.as_slice-winner-items.result.now ≡ [] =
    drop_all c.loop-winner.winner-index c.as_slice-winner-items.result.now c.loop-winner-test.false in
    let all : values_view c.loop-winner.values ≡ custom_values c.args.self.now.entries.items =
    sym (c.loop-winner.invariant
    ∙ (ap (λ es. values_view c.loop-winner.values ++ custom_values es) rest ∙ append-nil (values_view c.loop-winner.values))) in
    ap (λ vs. are_in_order (names_of vs)) all
    ∙ values-in-order c.args.self.now.entries.items c.args.self.now.order
