use Rattle.reply_laws.proofs.NewIds.{ids-inserted}
use Rattle.reply_laws.proofs.edits.inserts_name_new_ids.Goals as goal

pub returns : goal.returns
returns c = ids-inserted
