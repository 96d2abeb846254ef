-- A bracket less is open, and at last none.
use Rattle.std.proofs.Common.{◌≡◌, ◌∙◌, sym, [], None}
use Rattle.css_tokens.proofs.OpenBrackets.{rest-end, rest-none, within-ends, within-none}
use Rattle.css_tokens.proofs.nesting.Nesting.finish.Goals as goal

pub loop-self-preserved : goal.loop-self-preserved
loop-self-preserved c = record {
  within = within-ends c.loop-self.self c.end.new.self None c.in_ok-end.ensures c.loop-self.invariant.within;
  same = rest-end c.loop-self.self c.end.new.self c.in_ok-end.ensures ∙ c.loop-self.invariant.same;
}

pub returns : goal.returns
returns c =
    let none : c.loop-self.self.open_brackets ≡ [] = c.is_empty.ensures.0 c.loop-self-test.false in
    (sym (rest-none c.loop-self.self none) ∙ c.loop-self.invariant.same, within-none c.loop-self.self none c.loop-self.invariant.within)
