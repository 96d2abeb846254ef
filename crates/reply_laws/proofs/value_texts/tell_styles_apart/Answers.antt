use Rattle.reply_laws.proofs.StylesApart.{styles-apart, initial-style}
use Rattle.reply_laws.proofs.value_texts.tell_styles_apart.Goals as goal

pub returns : goal.returns
returns c = record { apart = styles-apart; initial_values = initial-style }
