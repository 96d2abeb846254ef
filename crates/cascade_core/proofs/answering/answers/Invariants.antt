-- The answers so far, and those of the rules that are left, are all.
use Rattle.std.proofs.Common.{◌≡◌, ◌≤◌, ◌-◌, ◌++◌, length, drop}
use Rattle.cascade_core.specs.inner.Answers.{answers_at}
use Rattle.cascade_core.proofs.answering.answers.Given as goal

abbrev pub invariant-loop-pair : goal.invariant-loop-pair
invariant-loop-pair g l = record {
  all : l.answers ++ answers_at l.v l.book.bodies (drop (length l.answers) l.matched.pairs)
      ≡ answers_at l.v l.book.bodies l.matched.pairs;
  within : length l.answers ≤ length l.matched.pairs;
}

abbrev pub decreases-loop-pair : goal.decreases-loop-pair
decreases-loop-pair g l = length l.matched.pairs - length l.answers
