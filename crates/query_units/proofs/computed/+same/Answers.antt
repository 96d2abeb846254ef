use Rattle.std.proofs.Common.{◌∙◌, ap, sym}
use Rattle.std.proofs.lemmas.List.{drop_all}
use Rattle.query_units.specs.Views.{all_computed_view}
use Rattle.query_units.specs.inner.Sameness.{are_same}
use Rattle.query_units.proofs.computed.+same.Goals as goal

pub are_same-returns : goal.are_same-returns
are_same-returns t c =
    let done = drop_all c.loop-x.x-index c.as_slice-x-items.result.now c.loop-x-test.false in
    c.is_none_left.ensures
    ∙ (sym (ap (λ xs. are_same (all_computed_view xs) (all_computed_view c.loop-x.rest.now)) done) ∙ c.loop-x.invariant)
