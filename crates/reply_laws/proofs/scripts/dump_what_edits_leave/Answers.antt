use Rattle.reply_laws.proofs.AreReplies.{edit-then-dump}
use Rattle.reply_laws.proofs.scripts.dump_what_edits_leave.Goals as goal

pub returns : goal.returns
returns c = edit-then-dump
