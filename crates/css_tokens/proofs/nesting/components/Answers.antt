-- The computed components are the components.
use Rattle.std.proofs.Common.{subst, List}
use Rattle.css_model.specs.declared.token.Token.{Token}
use Rattle.css_tokens.specs.inner.OpenBrackets.{Nests}
use Rattle.css_tokens.proofs.OpenBrackets.{nested-is, deep-is}
use Rattle.css_tokens.proofs.nesting.components.Goals as goal

pub returns-clause-nested : goal.returns-clause-nested
returns-clause-nested c = nested-is c.nested.result c.args.tokens.now (subst (λ (ts : List Token). Nests c.nested.result ts) c.as_slice.ensures c.nested.ensures)

pub returns-clause-deep : goal.returns-clause-deep
returns-clause-deep c = deep-is c.nested.result c.args.tokens.now (subst (λ (ts : List Token). Nests c.nested.result ts) c.as_slice.ensures c.nested.ensures)
