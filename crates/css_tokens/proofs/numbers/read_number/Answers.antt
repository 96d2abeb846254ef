use Rattle.std.proofs.Common.{◌∙◌, ap}
use Rattle.std.specs.Str.{chars}
use Rattle.std.specs.List.{list_all}
use Rattle.css_model.specs.Classes.{is_digit}
use Rattle.css_model.proofs.FirstNumbers.{numbers-in}
use Rattle.css_tokens.proofs.numbers.read_number.Goals as goal

pub number-requires-clause-integer : goal.number-requires-clause-integer
number-requires-clause-integer c = ap (λ w. list_all is_digit w.integer) c.read_numeral.ensures.numeral ∙ (numbers-in (chars c.args.cs.now) c.requires).is.integer

pub number-requires-clause-fraction : goal.number-requires-clause-fraction
number-requires-clause-fraction c = ap (λ w. list_all is_digit w.fraction) c.read_numeral.ensures.numeral ∙ (numbers-in (chars c.args.cs.now) c.requires).is.fraction
