use Rattle.std.proofs.Common.{◌≡◌, drop}
use Rattle.std.specs.Str.{chars}
use Rattle.page_model.specs.Attributes.{value_of}
use Rattle.dom_arena.proofs.attrs.value_in.Given as goal

-- no attribute before this one has the name
abbrev pub invariant-loop-key : goal.invariant-loop-key
invariant-loop-key l = value_of (chars l.name) (drop l.key-index l.attributes) ≡ value_of (chars l.name) l.attributes
