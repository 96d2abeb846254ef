use Rattle.std.proofs.Common.{◌≡◌, ◌∙◌, ap, sym, arith, drop, true, false}
use Rattle.std.specs.Prelude.{codes}
use Rattle.css_model.specs.Classes.{has_front}
use Rattle.css_tokens.proofs.CommentSteps.{inside-over, inside-more}
use Rattle.css_tokens.proofs.comments.inside_length.Goals as goal

pub returns-then-begins_end-clause-inside : goal.returns-then-begins_end-clause-inside
returns-then-begins_end-clause-inside c =
    let there : has_front (codes "*/") (drop c.loop-i.i c.args.bytes.now) ≡ true = ap (has_front (codes "*/")) (sym c.split_at.ensures.back) ∙ (sym c.begins_end.ensures ∙ c.if-begins_end.true) in
    omega (arith, inside-over c.args.bytes.now c.loop-i.i there, c.loop-i.invariant)

pub loop-i-preserved : goal.loop-i-preserved
loop-i-preserved c =
    let none : has_front (codes "*/") (drop c.loop-i.i c.args.bytes.now) ≡ false = ap (has_front (codes "*/")) (sym c.split_at.ensures.back) ∙ (sym c.begins_end.ensures ∙ c.if-begins_end.false) in
    omega (arith, inside-more c.args.bytes.now c.loop-i.i c.loop-i-test.true none, c.loop-i.invariant)
