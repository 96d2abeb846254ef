use Rattle.std.proofs.Common.{◌∙◌, sym, ap, ◌++◌}
use Rattle.selectors.proofs.Comparisons.{dash-after, no-dash-after}
use Rattle.selectors.proofs.values.has_dash_after.Goals as goal

pub returns-in-Some : goal.returns-in-Some
returns-in-Some c =
    let parts = c.in-Some.ensures.cases in
    c.starts_with.ensures
    ∙ dash-after c.args.actual.now c.args.value.now c.in-Some.rest.now c.utf8.value
    (parts.1.1 ∙ ap (λ cs. c.args.value.now ++ cs) (sym parts.2))

pub returns-in-None : goal.returns-in-None
returns-in-None c = no-dash-after c.args.actual.now c.args.value.now c.utf8.actual c.utf8.value c.in-None.ensures.cases
