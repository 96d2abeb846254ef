use Rattle.rules_laws.proofs.SheetTexts.{within-text}
use Rattle.rules_laws.proofs.sheets.limits.Goals as goal

pub returns : goal.returns
returns c = within-text
