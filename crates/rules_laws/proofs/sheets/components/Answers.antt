use Rattle.rules_laws.proofs.SheetTexts.{components-text}
use Rattle.rules_laws.proofs.sheets.components.Goals as goal

pub returns : goal.returns
returns c = components-text
