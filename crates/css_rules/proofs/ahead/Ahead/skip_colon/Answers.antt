use Rattle.std.proofs.Common.{◌∙◌, ap, sym}
use Rattle.rules_model.specs.ComponentLists.{is_colon, is_semicolon}
use Rattle.css_rules.specs.inner.Reading.{left_of, after}
use Rattle.css_rules.proofs.Parts.{passes-one, colon-some, colon-none, front-after, white-semicolon}
use Rattle.css_rules.proofs.ahead.Ahead.skip_colon.Goals as goal

pub returns-then-is_at_colon-clause-colon : goal.returns-then-is_at_colon-clause-colon
returns-then-is_at_colon-clause-colon c =
    let passed =
    passes-one is_colon c.pass.ensures.0 (left_of c.skip_whitespace.new.self)
    (left_of c.pass.new.self) c.pass.ensures.1 (sym c.is_at_colon.ensures
    ∙ c.if-is_at_colon.true) in
    (colon-some (left_of c.args.self.now) (left_of c.skip_whitespace.new.self)
    (left_of c.pass.new.self) c.skip_whitespace.ensures passed).0

pub returns-then-is_at_colon-clause-left : goal.returns-then-is_at_colon-clause-left
returns-then-is_at_colon-clause-left c =
    let passed =
    passes-one is_colon c.pass.ensures.0 (left_of c.skip_whitespace.new.self)
    (left_of c.pass.new.self) c.pass.ensures.1 (sym c.is_at_colon.ensures
    ∙ c.if-is_at_colon.true) in
    (colon-some (left_of c.args.self.now) (left_of c.skip_whitespace.new.self)
    (left_of c.pass.new.self) c.skip_whitespace.ensures passed).1

pub returns-else-is_at_colon-clause-colon : goal.returns-else-is_at_colon-clause-colon
returns-else-is_at_colon-clause-colon c =
    colon-none (left_of c.args.self.now) (left_of c.skip_whitespace.new.self)
    c.skip_whitespace.ensures (sym c.is_at_colon.ensures ∙ c.if-is_at_colon.false)

pub returns-else-is_at_colon-clause-left : goal.returns-else-is_at_colon-clause-left
returns-else-is_at_colon-clause-left c =
    ap (after is_semicolon) c.skip_whitespace.ensures
    ∙ front-after is_semicolon white-semicolon (left_of c.args.self.now)
