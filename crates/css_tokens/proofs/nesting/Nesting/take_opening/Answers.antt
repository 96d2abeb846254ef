-- A bracket more is open, or all brackets that may be.
use Rattle.std.proofs.Common.{◌∙◌, arith}
use Rattle.css_tokens.specs.declared.nesting.OpenBracket.{OpenBracket}
use Rattle.css_tokens.specs.declared.nesting.Nesting.{Nesting}
use Rattle.css_tokens.proofs.OpenBrackets.{rest-opening, within-opening, depths-limit}
use Rattle.css_tokens.proofs.nesting.Nesting.take_opening.Goals as goal

pub returns-then-len-ge-MAX_NESTING : goal.returns-then-len-ge-MAX_NESTING
returns-then-len-ge-MAX_NESTING c = λ rest. depths-limit c.args.self.now c.args.head rest c.requires.opens (omega (arith, c.len.ensures, c.if-len-ge-MAX_NESTING.true))

pub returns : goal.returns
returns c =
    let after : Nesting = record { open_brackets = c.push.new.self; contents = c.replace-before.new.dest } in
    let open_bracket : OpenBracket = record { before = c.replace-before.result; head = c.args.head } in
    record {
      within = within-opening c.args.self.now after open_bracket c.in_ok-push.ensures.ok c.replace-before.ensures.value (c.replace-before.ensures.after ∙ c.new.ensures) (omega (arith, c.len.ensures, c.if-len-ge-MAX_NESTING.false));
      rest = λ rest. rest-opening c.args.self.now after open_bracket rest c.requires.opens c.in_ok-push.ensures.ok c.replace-before.ensures.value (c.replace-before.ensures.after ∙ c.new.ensures);
    }
