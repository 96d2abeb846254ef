use Rattle.std.proofs.Common.{◌≡◌, ◌++◌, drop}
use Rattle.custom_props.proofs.copies.+copies.Given as goal

-- what was copied and what is left
abbrev pub invariant-append_copy-loop-c : goal.invariant-append_copy-loop-c
invariant-append_copy-loop-c l = l.copy ++ drop l.c-index l.components ≡ l.fn.copy ++ l.components
