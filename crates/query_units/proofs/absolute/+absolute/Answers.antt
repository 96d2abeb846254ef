use Rattle.std.proofs.Common.{rules, ◌≡◌, ◌∙◌, ap, ap₂, sym, [], ◌∷◌, ◌++◌, map}
use Rattle.std.proofs.lemmas.List.{drop_all}
use Rattle.value_model.specs.Calculations as model
use Rattle.value_model.specs.Lengths as lengths
use Rattle.query_units.specs.declared.length.Length.TheFolds.{fold-roll-Length}
use Rattle.query_units.specs.declared.length.Length.TheOpen.{Length-F}
use Rattle.query_units.specs.declared.length.Length.TheViews as views
use Rattle.value_model.specs.Calculations.{all_with_leaves, computed_leaf, largest, smallest, sum, with_leaves}
use Rattle.query_units.specs.Views.{all_computed_view, length_step, computed_view, length_view, lengths_view}
use Rattle.query_units.specs.inner.Fronts.{in_front}
use Rattle.query_units.proofs.FrontCalculations.{in_front_all}
use Rattle.query_units.proofs.ListedSteps.{computed_step}
use Rattle.query_units.proofs.absolute.+absolute.Goals as goal

pub all_with_values-loop-l-preserved : goal.all_with_values-loop-l-preserved
all_with_values-loop-l-preserved t c =
    let pushed : c.push.new.self ≡ c.loop-l.all ++ c.in_ok-computed.computed ∷ [] = search rules in
    let one : computed_view c.in_ok-computed.computed ≡ with_leaves (computed_leaf c.args.b.now) (length_view c.l-item.result) = search rules in
    rw pushed (computed_step (computed_leaf c.args.b.now) c.as_slice-l-items.result.now c.loop-l.l-index c.l-item.result
    c.loop-l.all c.in_ok-computed.computed _ c.loop-l-test.true c.l-item.is one c.loop-l.invariant)

pub all_with_values-returns : goal.all_with_values-returns
all_with_values-returns t c =
    let done = drop_all c.loop-l.l-index c.as_slice-l-items.result.now c.loop-l-test.false in
    sym (in_front_all c.loop-l.all)
    ∙ (sym (ap (λ ls. in_front (map computed_view c.loop-l.all) (all_with_leaves (computed_leaf c.args.b.now) (lengths_view ls))) done)
    ∙ c.loop-l.invariant)

pub with_values-returns-in_ok-sum-in-Sum : goal.with_values-returns-in_ok-sum-in-Sum
with_values-returns-in_ok-sum-in-Sum t c =
    let left : computed_view c.in_ok-x-in-Sum.x ≡ with_leaves (computed_leaf c.args.b.now) (length_view c.in-Sum.x) = search rules in
    let right : computed_view c.in_ok-y-in-Sum.y ≡ with_leaves (computed_leaf c.args.b.now) (length_view c.in-Sum.y) = search rules in
    let given : length_view c.args.l.now ≡ sum (length_view c.in-Sum.x) (length_view c.in-Sum.y) = ap length_view c.in-Sum.is
    ∙ (ap length_view (sym (views.rolls-Sum c.in-Sum.x c.in-Sum.y))
    ∙ fold-roll-Length (model.Calculation lengths.Length) length_step (Length-F.Sum c.in-Sum.x c.in-Sum.y)) in
    c.in_ok-sum-in-Sum.ensures ∙ (ap₂ sum left right ∙ ap (with_leaves (computed_leaf c.args.b.now)) (sym given))

pub with_values-returns-in_ok-smallest-in-Smallest : goal.with_values-returns-in_ok-smallest-in-Smallest
with_values-returns-in_ok-smallest-in-Smallest t c =
    let left : computed_view c.in_ok-first-in-Smallest.first ≡ with_leaves (computed_leaf c.args.b.now) (length_view c.in-Smallest.first) = search rules in
    let right : all_computed_view c.in_ok-others-in-Smallest.others ≡ all_with_leaves (computed_leaf c.args.b.now) (lengths_view c.in-Smallest.others) = search rules in
    let given : length_view c.args.l.now ≡ smallest (length_view c.in-Smallest.first) (lengths_view c.in-Smallest.others) = ap length_view c.in-Smallest.is
    ∙ (ap length_view (sym (views.rolls-Smallest c.in-Smallest.first c.in-Smallest.others))
    ∙ fold-roll-Length (model.Calculation lengths.Length) length_step (Length-F.Smallest c.in-Smallest.first c.in-Smallest.others)) in
    c.in_ok-smallest-in-Smallest.ensures ∙ (ap₂ smallest left right ∙ ap (with_leaves (computed_leaf c.args.b.now)) (sym given))

pub with_values-returns-in_ok-largest-in-Largest : goal.with_values-returns-in_ok-largest-in-Largest
with_values-returns-in_ok-largest-in-Largest t c =
    let left : computed_view c.in_ok-first-in-Largest.first ≡ with_leaves (computed_leaf c.args.b.now) (length_view c.in-Largest.first) = search rules in
    let right : all_computed_view c.in_ok-others-in-Largest.others ≡ all_with_leaves (computed_leaf c.args.b.now) (lengths_view c.in-Largest.others) = search rules in
    let given : length_view c.args.l.now ≡ largest (length_view c.in-Largest.first) (lengths_view c.in-Largest.others) = ap length_view c.in-Largest.is
    ∙ (ap length_view (sym (views.rolls-Largest c.in-Largest.first c.in-Largest.others))
    ∙ fold-roll-Length (model.Calculation lengths.Length) length_step (Length-F.Largest c.in-Largest.first c.in-Largest.others)) in
    c.in_ok-largest-in-Largest.ensures ∙ (ap₂ largest left right ∙ ap (with_leaves (computed_leaf c.args.b.now)) (sym given))
