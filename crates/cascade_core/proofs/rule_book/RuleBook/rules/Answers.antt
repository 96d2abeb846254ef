use Rattle.cascade_core.proofs.RulesView.{selectors-are}
use Rattle.cascade_core.proofs.rule_book.RuleBook.rules.Goals as goal

pub returns : goal.returns
returns c = record {
  numbered = c.args.self.now.numbered;
  selectors = selectors-are c.args.self.now.rules c.args.self.now.bodies c.args.self.now.paired;
}
