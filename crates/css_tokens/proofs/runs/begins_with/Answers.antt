use Rattle.std.proofs.Common.{◌∙◌}
use Rattle.css_tokens.proofs.Utf8Fronts.{front-start}
use Rattle.css_tokens.proofs.runs.begins_with.Goals as goal

pub returns : goal.returns
returns c = c.starts_with.ensures.value ∙ front-start c.args.front.now c.args.bytes.now
