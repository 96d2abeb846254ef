use Rattle.std.proofs.Common.{◌∙◌, ap, sym, ◌++◌, length}
use Rattle.std.proofs.Math.Utf8.{encode}
use Rattle.std.proofs.lemmas.Str.{chars_past_char}
use Rattle.css_tokens.proofs.Utf8Fronts.{empty-chars}
use Rattle.css_tokens.proofs.runs.first.Goals as goal

pub returns-in-Some : goal.returns-in-Some
returns-in-Some c =
    chars_past_char c.args.cs.now c.as_str.result.now c.in-Some.c c.utf8.cs
    (sym c.chars-rest.ensures.rest ∙ (c.in-Some.ensures.steps.0 ∙ ap (λ r. encode c.in-Some.c ++ r) (sym c.as_str.ensures)))

pub returns-in-None : goal.returns-in-None
returns-in-None c = empty-chars c.args.cs.now (ap length (sym c.chars-rest.ensures.rest) ∙ c.in-None.ensures.steps.0.0)
