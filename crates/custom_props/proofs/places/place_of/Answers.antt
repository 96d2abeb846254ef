use Rattle.std.proofs.Common.{◌∙◌, ◌<◌, ◌/◌, ◌+◌, ap, sym, arith, rules, suc, length}
use Rattle.std.specs.Str.{chars}
use Rattle.custom_model.specs.NamedValues.{are_in_order, names_of}
use Rattle.custom_props.specs.Views.{values_view}
use Rattle.custom_props.specs.inner.Places.{order_of, place_of}
use Rattle.custom_props.proofs.PlacesInOrder.{back-short, behind, front-short, half-at, half-back, half-front, order-of-back, order-of-front}
use Rattle.custom_props.proofs.places.place_of.Goals as goal

pub returns-in-Equal-clause-place : goal.returns-in-Equal-clause-place
returns-in-Equal-clause-place c =
    half-at (chars c.args.name.now) c.loop-rest.rest.now c.loop-rest.start (length c.loop-rest.rest.now / 2)
    c.index-rest-middle.result _ c.loop-rest.invariant.order c.loop-rest.invariant.same (search rules)
    (sym c.in-Equal.is ∙ (c.compare.ensures ∙ ap (order_of (chars c.args.name.now)) c.as_str.ensures.characters))

pub loop-rest-preserved-in-Less : goal.loop-rest-preserved-in-Less
loop-rest-preserved-in-Less c = record {
  order =
      ap (λ vs. are_in_order (names_of (values_view vs))) c.front_half-rest.ensures
      ∙ order-of-front (length c.loop-rest.rest.now / 2) c.loop-rest.rest.now c.loop-rest.invariant.order;
  within =
      omega (
        arith,
        c.loop-rest.invariant.within,
        ap length c.front_half-rest.ensures,
        front-short (length c.loop-rest.rest.now / 2) c.loop-rest.rest.now,
      );
  same =
      ap (λ vs. behind c.loop-rest.start (place_of (chars c.args.name.now) (names_of (values_view vs)))) c.front_half-rest.ensures
      ∙ half-front (chars c.args.name.now) c.loop-rest.rest.now c.loop-rest.start (length c.loop-rest.rest.now / 2)
      c.index-rest-middle.result _ c.loop-rest.invariant.order c.loop-rest.invariant.same (search rules)
      (sym c.in-Less.is ∙ (c.compare.ensures ∙ ap (order_of (chars c.args.name.now)) c.as_str.ensures.characters));
}

pub loop-rest-preserved : goal.loop-rest-preserved
loop-rest-preserved c =
    let middle : length c.loop-rest.rest.now / 2 < length c.loop-rest.rest.now = search rules in
    record {
      order =
          ap (λ vs. are_in_order (names_of (values_view vs))) c.back_half-rest.ensures
          ∙ order-of-back (suc (length c.loop-rest.rest.now / 2)) c.loop-rest.rest.now c.loop-rest.invariant.order;
      within =
          omega (
            arith,
            c.loop-rest.invariant.within,
            ap length c.back_half-rest.ensures,
            back-short (length c.loop-rest.rest.now / 2) c.loop-rest.rest.now middle,
          );
      same =
          ap (λ vs. behind (c.loop-rest.start + (length c.loop-rest.rest.now / 2 + 1)) (place_of (chars c.args.name.now) (names_of (values_view vs)))) c.back_half-rest.ensures
          ∙ half-back (chars c.args.name.now) c.loop-rest.rest.now c.loop-rest.start (length c.loop-rest.rest.now / 2)
          c.index-rest-middle.result _ c.loop-rest.invariant.order c.loop-rest.invariant.same middle
          (sym c.in-Greater.is ∙ (c.compare.ensures ∙ ap (order_of (chars c.args.name.now)) c.as_str.ensures.characters));
    }
