use Rattle.std.proofs.Common.{◌∙◌, ◌++◌, ap, sym}
use Rattle.std.proofs.lemmas.List.{append-nil}
use Rattle.std.specs.Str.{chars}
use Rattle.custom_props.specs.Views.{values_view}
use Rattle.custom_props.specs.inner.Places.{order_of}
use Rattle.custom_props.proofs.MergedEntries.{before_equal}
use Rattle.custom_props.proofs.merging.append_before.Goals as goal

pub returns-in-Equal-clause-appended : goal.returns-in-Equal-clause-appended
returns-in-Equal-clause-appended c =
    sym (append-nil (values_view c.loop-place.new))
    ∙ (ap (λ vs. values_view c.loop-place.new ++ vs)
    (sym (before_equal (chars c.args.name.now) c.args.values.now c.loop-place.place c.index-values-place.result
    c.loop-place-test.true
    (sym c.in-Equal.is ∙ (c.compare.ensures
    ∙ ap (λ n. order_of n (chars c.args.name.now)) c.as_str.ensures.characters))))
    ∙ c.loop-place.invariant.appended)
