use Rattle.std.proofs.Common.{rules, ◌≡◌, ◌∙◌, sym, true, false}
use Rattle.css_tokens.specs.Nested.{component_view}
use Rattle.css_rules.specs.inner.Reading.{ends, left_of}
use Rattle.css_rules.proofs.Parts.{gathered-end, gathered-more, after-more, end-more, gathered-all}
use Rattle.css_rules.proofs.ahead.Ahead.gather.Goals as goal

pub returns-then-is-clause-part : goal.returns-then-is-clause-part
returns-then-is-clause-part c =
    let here : ends c.args.end (component_view c.in-Some.c) ≡ true =
    sym c.is.ensures ∙ c.if-is.true in
    gathered-end (ends c.args.end) c.loop-c.part c.in-Some.c (left_of c.loop-c.self)
    (left_of c.next.new.self) _
    c.in-Some.ensures here c.loop-c.invariant.part

pub loop-c-preserved : goal.loop-c-preserved
loop-c-preserved c =
    let other : ends c.args.end (component_view c.in-Some.c) ≡ false =
    sym c.is.ensures ∙ c.if-is.false in
    record {
      part = gathered-more (ends c.args.end) c.loop-c.part c.push.new.self c.in-Some.c
          (left_of c.loop-c.self) (left_of c.next.new.self) _
          c.in-Some.ensures other c.in_ok-push.ensures.ok c.loop-c.invariant.part;
      left = after-more (ends c.args.end) (component_view c.in-Some.c) (left_of c.loop-c.self)
          (left_of c.next.new.self) _
          c.in-Some.ensures other c.loop-c.invariant.left;
      end = end-more (ends c.args.end) (component_view c.in-Some.c) (left_of c.loop-c.self)
          (left_of c.next.new.self) _
          c.in-Some.ensures other c.loop-c.invariant.end;
    }

pub returns-clause-part : goal.returns-clause-part
returns-clause-part c =
    gathered-all (ends c.args.end) c.loop-c.part (left_of c.loop-c.self) _ (search rules)
    c.loop-c.invariant.part
