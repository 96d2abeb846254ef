use Rattle.std.proofs.Common.{◌≡◌, take}
use Rattle.std.specs.List.{list_any}
use Rattle.page_model.specs.Trees.{Attribute, is_long}
use Rattle.dom_arena.proofs.names.has_long_value.Given as goal

-- the attributes so far were looked at
abbrev pub invariant-loop-value : goal.invariant-loop-value
invariant-loop-value l = l.found ≡ list_any (λ (a : Attribute). is_long a.1) (take l.value-index l.attributes)
