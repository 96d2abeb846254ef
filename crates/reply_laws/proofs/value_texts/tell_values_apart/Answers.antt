use Rattle.reply_laws.proofs.ValuesApart.{values-apart}
use Rattle.reply_laws.proofs.value_texts.tell_values_apart.Goals as goal

pub returns : goal.returns
returns c = values-apart
