use Rattle.std.proofs.Common.{◌∙◌, ap}
use Rattle.std.specs.Str.{chars}
use Rattle.std.proofs.lemmas.Str.{chars-IsAscii}
use Rattle.port_core.proofs.text.Text.from_chars.Goals as goal

pub returns-in-Some : goal.returns-in-Some
returns-in-Some c = ap chars c.in-Some.ensures.bytes ∙ chars-IsAscii c.args.cs.now c.in-Some.ensures.ascii
