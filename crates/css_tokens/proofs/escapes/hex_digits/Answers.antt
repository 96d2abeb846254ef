use Rattle.std.proofs.Common.{◌∙◌, ap, length, drop}
use Rattle.std.specs.Str.{chars}
use Rattle.css_model.specs.inner.Fronts.{hex_digits_in}
use Rattle.css_tokens.proofs.HexFronts.{hex-front}
use Rattle.css_tokens.proofs.escapes.hex_digits.Goals as goal

pub split_ascii-requires-clause-ascii : goal.split_ascii-requires-clause-ascii
split_ascii-requires-clause-ascii c =
    (hex-front c.args.cs.now c.hex_length.result c.utf8.cs (c.hex_length.ensures.digits ∙ ap (λ bs. length (hex_digits_in 6 bs)) c.as_bytes.ensures.value)).ascii

pub returns-clause-digits : goal.returns-clause-digits
returns-clause-digits c =
    c.split_ascii.ensures.front ∙ (hex-front c.args.cs.now c.hex_length.result c.utf8.cs (c.hex_length.ensures.digits ∙ ap (λ bs. length (hex_digits_in 6 bs)) c.as_bytes.ensures.value)).front

pub returns-clause-rest : goal.returns-clause-rest
returns-clause-rest c =
    c.split_ascii.ensures.rest ∙ ap (λ k. drop k (chars c.args.cs.now))
    (hex-front c.args.cs.now c.hex_length.result c.utf8.cs (c.hex_length.ensures.digits ∙ ap (λ bs. length (hex_digits_in 6 bs)) c.as_bytes.ensures.value)).size
