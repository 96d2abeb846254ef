use Rattle.std.proofs.Common.{◌∙◌, ap, arith}
use Rattle.std.specs.Str.{chars}
use Rattle.css_tokens.proofs.Utf8Fronts.{rest-cut}
use Rattle.css_tokens.proofs.tokenizer.before.Goals as goal

pub overflow_sub-text : goal.overflow_sub-text
overflow_sub-text c = omega (arith, (rest-cut c.args.text.now c.args.rest.now c.utf8.text c.utf8.rest c.requires).within)

pub split_at-requires : goal.split_at-requires
split_at-requires c = (rest-cut c.args.text.now c.args.rest.now c.utf8.text c.utf8.rest c.requires).cut.boundary

pub returns : goal.returns
returns c = ap chars c.split_at.ensures.front ∙ (rest-cut c.args.text.now c.args.rest.now c.utf8.text c.utf8.rest c.requires).cut.front
