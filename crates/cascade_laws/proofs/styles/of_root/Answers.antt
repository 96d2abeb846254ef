use Rattle.cascade_laws.proofs.AreStyled.{root-style}
use Rattle.cascade_laws.proofs.Parentless.{parentless-root}
use Rattle.cascade_laws.proofs.styles.of_root.Goals as goal

pub returns-clause-style : goal.returns-clause-style
returns-clause-style c = root-style

pub returns-clause-alone : goal.returns-clause-alone
returns-clause-alone c = parentless-root
