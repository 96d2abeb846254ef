use Rattle.std.proofs.Common.{◌∙◌, ap, drop}
use Rattle.std.specs.Str.{chars}
use Rattle.std.specs.List.{prefix_len}
use Rattle.css_tokens.specs.inner.Classes.{test_of}
use Rattle.css_tokens.proofs.Utf8Fronts.{class-run}
use Rattle.css_tokens.proofs.runs.run.Goals as goal

pub split_ascii-requires-clause-ascii : goal.split_ascii-requires-clause-ascii
split_ascii-requires-clause-ascii c = (class-run c.args.class c.args.cs.now c.run_length.result c.utf8.cs (c.run_length.ensures.run ∙ ap (prefix_len (test_of c.args.class)) c.as_bytes.ensures.value)).ascii

pub returns-clause-front : goal.returns-clause-front
returns-clause-front c = c.split_ascii.ensures.front ∙ (class-run c.args.class c.args.cs.now c.run_length.result c.utf8.cs (c.run_length.ensures.run ∙ ap (prefix_len (test_of c.args.class)) c.as_bytes.ensures.value)).front

pub returns-clause-rest : goal.returns-clause-rest
returns-clause-rest c = c.split_ascii.ensures.rest ∙ ap (λ k. drop k (chars c.args.cs.now)) (class-run c.args.class c.args.cs.now c.run_length.result c.utf8.cs (c.run_length.ensures.run ∙ ap (prefix_len (test_of c.args.class)) c.as_bytes.ensures.value)).size
