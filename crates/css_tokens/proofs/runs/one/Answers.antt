use Rattle.std.proofs.Common.{◌∙◌, ap, length, drop}
use Rattle.std.specs.Str.{chars}
use Rattle.css_model.specs.inner.Fronts.{one_in}
use Rattle.css_tokens.specs.inner.Classes.{test_of}
use Rattle.css_tokens.proofs.Utf8Fronts.{class-one}
use Rattle.css_tokens.proofs.runs.one.Goals as goal

pub split_ascii-requires-clause-ascii : goal.split_ascii-requires-clause-ascii
split_ascii-requires-clause-ascii c = (class-one c.args.class c.args.cs.now c.one_length.result c.utf8.cs (c.one_length.ensures.one ∙ ap (λ bs. length (one_in (test_of c.args.class) bs)) c.as_bytes.ensures.value)).ascii

pub returns-clause-front : goal.returns-clause-front
returns-clause-front c = c.split_ascii.ensures.front ∙ (class-one c.args.class c.args.cs.now c.one_length.result c.utf8.cs (c.one_length.ensures.one ∙ ap (λ bs. length (one_in (test_of c.args.class) bs)) c.as_bytes.ensures.value)).front

pub returns-clause-rest : goal.returns-clause-rest
returns-clause-rest c = c.split_ascii.ensures.rest ∙ ap (λ k. drop k (chars c.args.cs.now)) (class-one c.args.class c.args.cs.now c.one_length.result c.utf8.cs (c.one_length.ensures.one ∙ ap (λ bs. length (one_in (test_of c.args.class) bs)) c.as_bytes.ensures.value)).size
