use Rattle.reply_laws.proofs.IsAnswered.{element-style, turn-style-text}
use Rattle.reply_laws.proofs.turns.styles_show_the_cascade.Goals as goal

pub returns-clause-has_a_style : goal.returns-clause-has_a_style
returns-clause-has_a_style c = element-style

pub returns-clause-text : goal.returns-clause-text
returns-clause-text c = turn-style-text
