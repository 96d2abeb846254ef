use Rattle.std.proofs.Common.{◌≡◌}
use Rattle.std.specs.List.{list_all}
use Rattle.page_model.specs.Names.{is_name_code_point}
use Rattle.dom_arena.proofs.names.are_name_code_points.Given as goal

-- what came so far was looked at
abbrev pub invariant-loop-c : goal.invariant-loop-c
invariant-loop-c l = l.all ≡ list_all is_name_code_point l.yielded
