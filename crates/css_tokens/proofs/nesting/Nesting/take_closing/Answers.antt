-- The token closes the bracket that ends.
use Rattle.std.proofs.Common.{Some}
use Rattle.css_tokens.proofs.OpenBrackets.{rest-closing, within-ends}
use Rattle.css_tokens.proofs.nesting.Nesting.take_closing.Goals as goal

pub returns : goal.returns
returns c = record {
  within = within-ends c.args.self.now c.end.new.self (Some c.args.close) c.in_ok-end.ensures;
  rest = λ rest. rest-closing c.args.self.now c.end.new.self c.args.close rest c.requires.opens c.requires.closes c.in_ok-end.ensures;
}
