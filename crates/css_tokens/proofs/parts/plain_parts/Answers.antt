use Rattle.std.proofs.Common.{◌∙◌, ap}
use Rattle.std.specs.List.{prefix_len}
use Rattle.std.specs.Str.{chars}
use Rattle.css_tokens.specs.inner.Parts.{is_plain}
use Rattle.css_tokens.proofs.Utf8Fronts.{high-cut}
use Rattle.css_tokens.proofs.PartSteps.{plain-high}
use Rattle.css_tokens.proofs.parts.plain_parts.Goals as goal

pub split_at-requires : goal.split_at-requires
split_at-requires c = (high-cut (is_plain c.args.place) (plain-high c.args.place c.requires) c.args.cs.now c.plain_length.result c.utf8.cs (c.plain_length.ensures ∙ ap (prefix_len (is_plain c.args.place)) c.as_bytes.ensures.value)).boundary

pub returns-clause-front : goal.returns-clause-front
returns-clause-front c = ap chars c.split_at.ensures.front ∙ (high-cut (is_plain c.args.place) (plain-high c.args.place c.requires) c.args.cs.now c.plain_length.result c.utf8.cs (c.plain_length.ensures ∙ ap (prefix_len (is_plain c.args.place)) c.as_bytes.ensures.value)).front

pub returns-clause-rest : goal.returns-clause-rest
returns-clause-rest c = ap chars c.split_at.ensures.back ∙ (high-cut (is_plain c.args.place) (plain-high c.args.place c.requires) c.args.cs.now c.plain_length.result c.utf8.cs (c.plain_length.ensures ∙ ap (prefix_len (is_plain c.args.place)) c.as_bytes.ensures.value)).rest
