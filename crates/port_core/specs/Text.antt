-- Where the bytes of a text lie.
use Rattle.std.specs.Prelude.{ℕ, List, string_bytes, take}
use Rattle.port_core.specs.declared.text.Kept.{Kept}
use Rattle.port_core.specs.declared.text.Kept.TheVariants.{Here, There}

-- the bytes that are kept
abbrev pub kept_bytes : Kept → List ℕ
kept_bytes (Here short) = take short.len short.bytes
kept_bytes (There text) = string_bytes text.value
