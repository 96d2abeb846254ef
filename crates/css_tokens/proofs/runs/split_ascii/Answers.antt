use Rattle.std.proofs.Common.{◌∙◌, ap}
use Rattle.std.specs.Str.{chars}
use Rattle.css_tokens.proofs.Utf8Fronts.{ascii-cut}
use Rattle.css_tokens.proofs.runs.split_ascii.Goals as goal

pub split_at-requires : goal.split_at-requires
split_at-requires c = (ascii-cut c.args.cs.now c.args.len c.utf8.cs c.requires.within c.requires.ascii).boundary

pub returns-clause-front : goal.returns-clause-front
returns-clause-front c =
    c.as_bytes.ensures.value ∙ (c.split_at.ensures.front ∙ (ascii-cut c.args.cs.now c.args.len c.utf8.cs c.requires.within c.requires.ascii).front)

pub returns-clause-rest : goal.returns-clause-rest
returns-clause-rest c =
    ap chars c.split_at.ensures.back ∙ (ascii-cut c.args.cs.now c.args.len c.utf8.cs c.requires.within c.requires.ascii).rest
