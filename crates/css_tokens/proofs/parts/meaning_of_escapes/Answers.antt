use Rattle.std.proofs.Common.{rules, ◌≡◌, ◌∙◌, ap, sym, subst, Some, None, ◌++◌, ℕ, List}
use Rattle.std.specs.Prelude.{IfOk}
use Rattle.std.specs.Str.{chars}
use Rattle.std.proofs.lemmas.Str.{chars-nil}
use Rattle.css_model.specs.Parts.{meanings}
use Rattle.css_model.specs.inner.Fronts.{parts_in}
use Rattle.css_tokens.specs.inner.Parts.{part_view, front_part}
use Rattle.css_tokens.proofs.PartSteps.{PartStep, part-step, meaning-end, read-step, read-all}
use Rattle.css_tokens.proofs.parts.meaning_of_escapes.Goals as goal

pub loop-part-init : goal.loop-part-init
loop-part-init c = record {
  utf8 = c.utf8.cs;
  means = ap (λ w. w ++ meanings c.args.place (parts_in c.args.place (chars c.args.cs.now))) (ap chars c.new-text.ensures.bytes ∙ chars-nil);
}

pub front_part-requires-text-cs : goal.front_part-requires-text-cs
front_part-requires-text-cs c = λ _. c.loop-part.invariant.utf8

pub loop-part-preserved : goal.loop-part-preserved
loop-part-preserved c =
    let found : front_part c.args.place (chars c.loop-part.left.now) ≡ Some (part_view c.in-Some.part) = sym c.in-Some.ensures.part in
    let step : PartStep c.args.place (chars c.loop-part.left.now) (chars c.in-Some.rest.now) (part_view c.in-Some.part) =
    part-step c.args.place (chars c.loop-part.left.now) (chars c.in-Some.rest.now) (part_view c.in-Some.part) found c.in-Some.ensures.rest in
    record {
      utf8 = search rules;
      means = read-step _ _ _ _ _ _ _ c.in_ok-push_meaning.ensures c.meaning.ensures step.means c.loop-part.invariant.means;
    }

pub loop-part-smaller : goal.loop-part-smaller
loop-part-smaller c =
    let found : front_part c.args.place (chars c.loop-part.left.now) ≡ Some (part_view c.in-Some.part) = sym c.in-Some.ensures.part in
    (part-step c.args.place (chars c.loop-part.left.now) (chars c.in-Some.rest.now) (part_view c.in-Some.part) found c.in-Some.ensures.rest).shorter

pub returns : goal.returns
returns c =
    let none : front_part c.args.place (chars c.loop-part.left.now) ≡ None = sym c.in_default.ensures.part in
    let all : chars c.as_str.result.now ≡ meanings c.args.place (parts_in c.args.place (chars c.args.cs.now)) =
    read-all _ _ _ _ (ap chars c.as_str.ensures.value) (meaning-end c.args.place (chars c.loop-part.left.now) none) c.loop-part.invariant.means in
    subst (λ (xs : List ℕ). IfOk c.new.result (λ t. t ≡ xs)) all c.new.ensures
