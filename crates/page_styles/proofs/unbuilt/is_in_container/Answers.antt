use Rattle.std.proofs.Common.{◌∙◌, sym, arith}
use Rattle.page_styles.proofs.InContainer.{of-container, of-those-around, past-all}
use Rattle.page_styles.proofs.unbuilt.is_in_container.Goals as goal

pub returns-then-place-within : goal.returns-then-place-within
returns-then-place-within c =
    past-all c.args.conditions.now c.loop-next.within c.in-Some.place c.loop-next.next _ c.in-Some.is
    c.if-place-within.true c.loop-next.invariant.bound c.loop-next.invariant.same

pub returns-then-is_container : goal.returns-then-is_container
returns-then-is_container c =
    of-container c.args.conditions.now c.loop-next.within c.in-Some.place c.loop-next.next _
    c.index-conditions-place.result c.in-Some.is c.if-place-within.false c.loop-next.invariant.bound
    c.index-conditions-place.is c.loop-next.invariant.same (sym c.is_container.ensures ∙ c.if-is_container.true)

pub loop-next-preserved : goal.loop-next-preserved
loop-next-preserved c = record {
  same = of-those-around c.args.conditions.now c.loop-next.within c.in-Some.place c.loop-next.next _
      c.index-conditions-place.result c.in-Some.is c.if-place-within.false c.loop-next.invariant.bound
      c.index-conditions-place.is c.loop-next.invariant.same (sym c.is_container.ensures ∙ c.if-is_container.false);
  bound = omega (arith, c.if-place-within.false, c.loop-next.invariant.bound);
}
