use Rattle.std.proofs.Common.{arith, refl, [], ◌∷◌}
use Rattle.reply_model.specs.Replies.{AreReplies}
use Rattle.relayout_cli.proofs.examples.examples_of_what_is_written.Goals as goal

pub returns-clause-write_fault_in_part : goal.returns-clause-write_fault_in_part
unfolding AreReplies
returns-clause-write_fault_in_part c = record {
  answered = [];
  last = [];
  logs = [];
  before = [];
  reply = 1 ∷ 2 ∷ [];
  part = 1;
  lines_are = refl;
  replies = (refl, refl);
  text_is = refl;
  within = omega arith;
  written = refl;
}
