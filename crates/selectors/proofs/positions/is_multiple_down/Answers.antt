use Rattle.std.proofs.Common.{◌≡◌, ◌∙◌, neg_ℤ, rules}
use Rattle.selectors_model.specs.AnPlusBs.{is_multiple}
use Rattle.selectors.proofs.IsMultiple.{multiple-negated}
use Rattle.selectors.proofs.positions.is_multiple_down.Goals as goal

pub returns : goal.returns
returns c =
    let exact : c.is_multiple.result ≡ is_multiple (neg_ℤ c.args.step) (neg_ℤ c.args.distance) = search rules in
    exact ∙ multiple-negated c.args.step c.args.distance c.requires.negative
