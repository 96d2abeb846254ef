use Rattle.std.proofs.Common.{◌∙◌, ap, Some}
use Rattle.value_model.specs.CalculationGrammar as grammar
use Rattle.query_units.proofs.CallSteps.{min_of_lengths, max_of_lengths}
use Rattle.query_units.proofs.functions.value_of_lengths.Goals as goal

pub returns-in_ok-smallest-in-Min : goal.returns-in_ok-smallest-in-Min
returns-in_ok-smallest-in-Min c =
    rw c.in-Min.is (ap (λ a. Some (grammar.length a)) c.in_ok-smallest-in-Min.ensures
    ∙ min_of_lengths c.args.first c.args.others)

pub returns-in_ok-largest-in-Max : goal.returns-in_ok-largest-in-Max
returns-in_ok-largest-in-Max c =
    rw c.in-Max.is (ap (λ a. Some (grammar.length a)) c.in_ok-largest-in-Max.ensures
    ∙ max_of_lengths c.args.first c.args.others)
