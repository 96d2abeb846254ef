use Rattle.std.proofs.Common.{◌∙◌, sym, ap}
use Rattle.std.proofs.lemmas.List.{drop_all, take_all}
use Rattle.css_tokens.specs.Nested.{components_view}
use Rattle.rules_model.specs.Declarations.{is_important_mark}
use Rattle.css_rules.proofs.Marks.{mark-found, mark-step, mark-none, rest-whole}
use Rattle.css_rules.proofs.important.mark_place.Goals as goal

pub returns-then-is_important_mark : goal.returns-then-is_important_mark
returns-then-is_important_mark c =
    let rest = ap (λ cs. is_important_mark (components_view cs))
    (rest-whole c.args.value.now c.loop-place.place) in
    mark-found c.args.value.now c.loop-place.place (sym rest
    ∙ (sym c.is_important_mark.ensures ∙ c.if-is_important_mark.true)) c.loop-place.invariant

pub loop-place-preserved : goal.loop-place-preserved
loop-place-preserved c =
    let rest = ap (λ cs. is_important_mark (components_view cs))
    (rest-whole c.args.value.now c.loop-place.place) in
    mark-step c.args.value.now c.loop-place.place c.loop-place-test.true (sym rest
    ∙ (sym c.is_important_mark.ensures ∙ c.if-is_important_mark.false)) c.loop-place.invariant

pub returns : goal.returns
returns c =
    mark-none c.args.value.now c.loop-place.place
    (drop_all c.loop-place.place c.args.value.now c.loop-place-test.false)
    (take_all c.loop-place.place c.args.value.now c.loop-place-test.false) c.loop-place.invariant
