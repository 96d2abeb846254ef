use Rattle.reply_laws.proofs.NewIds.{ids-loaded}
use Rattle.reply_laws.proofs.edits.loads_name_all_ids.Goals as goal

pub returns : goal.returns
returns c = ids-loaded
