use Rattle.std.proofs.Common.{◌≡◌, take, length}
use Rattle.std.specs.Str.{IsAscii}
use Rattle.port_core.proofs.short_text.ShortText.from_ascii.Given as goal

abbrev pub invariant-loop-i : goal.invariant-loop-i
invariant-loop-i l = record {
  room : length l.bytes ≡ 12;
  same : take l.i l.bytes ≡ take l.i l.cs;
  ascii : IsAscii (take l.i l.cs);
}
