-- A component more.
use Rattle.std.proofs.Common.{◌∙◌, ap}
use Rattle.css_tokens.specs.Nested.{components_view}
use Rattle.css_tokens.proofs.OpenBrackets.{view-push}
use Rattle.css_tokens.proofs.nesting.Nesting.add.Goals as goal

pub returns-clause-contents : goal.returns-clause-contents
returns-clause-contents c = ap components_view c.in_ok-push.ensures.ok ∙ view-push c.args.self.now.contents c.args.component
