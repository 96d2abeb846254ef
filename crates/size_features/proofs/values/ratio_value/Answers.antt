use Rattle.std.proofs.Common.{◌∙◌, ap, sym}
use Rattle.conditions_model.specs.SizeFeatures.{ratio_of}
use Rattle.css_tokens.specs.Nested.{components_view, listed}
use Rattle.size_features.proofs.Ratios.{without-listed}
use Rattle.size_features.proofs.values.ratio_value.Goals as goal

pub returns-in-Some : goal.returns-in-Some
returns-in-Some c =
    c.ratio_of_words.ensures
    ∙ (ap (λ ws. ratio_of (listed ws)) c.in-Some.ensures.words
    ∙ ap ratio_of (sym (without-listed (components_view c.args.components.now))))

pub returns-in-None : goal.returns-in-None
returns-in-None c =
    ap (λ ws. ratio_of (listed ws)) c.in-None.ensures.words
    ∙ ap ratio_of (sym (without-listed (components_view c.args.components.now)))
