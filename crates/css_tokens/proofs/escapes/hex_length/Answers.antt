use Rattle.std.proofs.Common.{◌∙◌, ap, take}
use Rattle.std.specs.List.{prefix_len}
use Rattle.css_model.specs.Classes.{is_hex_digit}
use Rattle.css_tokens.proofs.HexFronts.{hex-within}
use Rattle.css_tokens.proofs.escapes.hex_length.Goals as goal

pub returns-clause-digits : goal.returns-clause-digits
returns-clause-digits c =
    c.run_length.ensures.run ∙ (ap (prefix_len is_hex_digit) (c.split_at.ensures.front ∙ ap (λ n. take n c.args.bytes.now) c.min.ensures) ∙ hex-within 6 c.args.bytes.now)
