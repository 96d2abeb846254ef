use Rattle.std.proofs.Common.{◌∙◌}
use Rattle.std.specs.Str.{chars}
use Rattle.css_tokens.specs.inner.Parts.{part_view}
use Rattle.css_tokens.proofs.PartSteps.{begins-is}
use Rattle.css_tokens.proofs.parts.begins_part.Goals as goal

pub returns : goal.returns
returns c = c.is_some.ensures ∙ begins-is (λ p. part_view p.0) c.args.place (chars c.args.cs.now) c.front_part.result c.front_part.ensures.part
