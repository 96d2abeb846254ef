use Rattle.std.proofs.Common.{◌∙◌, ap, sym}
use Rattle.std.proofs.lemmas.Str.{chars_from_encodes}
use Rattle.std.specs.Str.{chars}
use Rattle.selectors_model.specs.Values.{value_matches}
use Rattle.selectors.proofs.names.compares.Goals as goal

pub returns : goal.returns
returns c = λ cs actual.
    c.value_matches.ensures
    ∙ ap (λ es. value_matches c.args.matcher es (chars c.args.value.now)) (sym (chars_from_encodes cs c.args.actual.now c.utf8.actual (sym actual)))
