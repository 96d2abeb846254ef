use Rattle.std.specs.Prelude.{string_bytes}
use Rattle.std.proofs.lemmas.Str.{IsUtf8-string_bytes}
use Rattle.port_core.proofs.CharLemmas.{push-more}
use Rattle.port_core.proofs.text.push_char.Goals as goal

pub returns : goal.returns
returns c =
    push-more c.push.result (string_bytes c.args.text.now) (string_bytes c.push.new.self) c.args.c (IsUtf8-string_bytes c.args.text.now) c.ranges.c.0 c.push.ensures.bytes
