use Rattle.std.proofs.Common.{◌≡◌, not, take}
use Rattle.std.specs.List.{list_any}
use Rattle.page_model.specs.Names.{is_name}
use Rattle.page_model.specs.Trees.{Attribute}
use Rattle.dom_arena.proofs.names.has_bad_name.Given as goal

-- the attributes so far were looked at
abbrev pub invariant-loop-key : goal.invariant-loop-key
invariant-loop-key l = l.found ≡ list_any (λ (a : Attribute). not (is_name a.0)) (take l.key-index l.attributes)
