use Rattle.std.proofs.Common.{◌∙◌}
use Rattle.size_features.proofs.PlainNames.{plain-media}
use Rattle.size_features.proofs.names.plain_name.Goals as goal

pub returns : goal.returns
returns c = c.find_word.ensures ∙ plain-media c.args.names c.args.name.now
