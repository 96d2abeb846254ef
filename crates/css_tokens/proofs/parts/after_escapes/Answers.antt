use Rattle.std.proofs.Common.{rules, ◌≡◌, ◌∙◌, sym, Some, None}
use Rattle.std.specs.Str.{chars}
use Rattle.css_tokens.specs.inner.Parts.{part_view, front_part}
use Rattle.css_tokens.proofs.PartSteps.{part-step, part-end}
use Rattle.css_tokens.proofs.parts.after_escapes.Goals as goal

pub front_part-requires-text-cs : goal.front_part-requires-text-cs
front_part-requires-text-cs c = λ _. c.loop-front.invariant.utf8

pub loop-front-preserved : goal.loop-front-preserved
loop-front-preserved c =
    let found : front_part c.args.place (chars c.loop-front.left.now) ≡ Some (part_view c.in-Some.front.0) = sym c.in-Some.ensures.part in
    record {
      utf8 = search rules;
      same = (part-step c.args.place (chars c.loop-front.left.now) (chars c.in-Some.front.1.now) (part_view c.in-Some.front.0) found c.in-Some.ensures.rest).after ∙ c.loop-front.invariant.same;
    }

pub loop-front-smaller : goal.loop-front-smaller
loop-front-smaller c =
    let found : front_part c.args.place (chars c.loop-front.left.now) ≡ Some (part_view c.in-Some.front.0) = sym c.in-Some.ensures.part in
    (part-step c.args.place (chars c.loop-front.left.now) (chars c.in-Some.front.1.now) (part_view c.in-Some.front.0) found c.in-Some.ensures.rest).shorter

pub returns : goal.returns
returns c =
    let none : front_part c.args.place (chars c.loop-front.left.now) ≡ None = sym c.in_default.ensures.part in
    sym (part-end c.args.place (chars c.loop-front.left.now) none) ∙ c.loop-front.invariant.same
