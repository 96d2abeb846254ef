use Rattle.std.proofs.Common.{rules, ◌≡◌, ◌∙◌, sym, ◌<◌, ◌/◌, ap, arith, suc, length, get_or, true, false}
use Rattle.std.specs.Str.{chars}
use Rattle.custom_model.specs.NamedValues.{are_in_order}
use Rattle.page_model.specs.Attributes.{is_less_text}
use Rattle.cascade_core.specs.inner.Customs.{less_count, name_of, names}
use Rattle.cascade_core.proofs.CustomPlaces.{back-in-order, back-short, front-in-order, front-short, half-back, half-front}
use Rattle.cascade_core.proofs.customs.place_for.Goals as goal

pub loop-rest-preserved-then-is_less : goal.loop-rest-preserved-then-is_less
loop-rest-preserved-then-is_less c =
    let middle : length c.loop-rest.rest.now / 2 < length c.loop-rest.rest.now = search rules in
    let less : is_less_text (name_of c.index-rest-middle.result) (chars c.args.name.now) ≡ true = search rules in
    let there : is_less_text (name_of (get_or c.loop-rest.rest.now (length c.loop-rest.rest.now / 2) c.index-rest-middle.result)) (chars c.args.name.now) ≡ true =
    ap (λ w. is_less_text (name_of w) (chars c.args.name.now)) (sym c.index-rest-middle.is) ∙ less in
    record {
      order =
          ap (λ es. are_in_order (names es)) c.back_half-rest.ensures
          ∙ back-in-order (suc (length c.loop-rest.rest.now / 2)) c.loop-rest.rest.now c.loop-rest.invariant.order;
      within =
          omega (
            arith,
            c.loop-rest.invariant.within,
            ap length c.back_half-rest.ensures,
            back-short (length c.loop-rest.rest.now / 2) c.loop-rest.rest.now middle,
          );
      same =
          omega (
            arith,
            c.loop-rest.invariant.same,
            ap (λ es. less_count (chars c.args.name.now) (names es)) c.back_half-rest.ensures,
            half-back (chars c.args.name.now) c.loop-rest.rest.now (length c.loop-rest.rest.now / 2) c.index-rest-middle.result
                c.loop-rest.invariant.order middle there,
          );
    }

pub loop-rest-preserved : goal.loop-rest-preserved
loop-rest-preserved c =
    let middle : length c.loop-rest.rest.now / 2 < length c.loop-rest.rest.now = search rules in
    let more : is_less_text (name_of c.index-rest-middle.result) (chars c.args.name.now) ≡ false = search rules in
    let there : is_less_text (name_of (get_or c.loop-rest.rest.now (length c.loop-rest.rest.now / 2) c.index-rest-middle.result)) (chars c.args.name.now) ≡ false =
    ap (λ w. is_less_text (name_of w) (chars c.args.name.now)) (sym c.index-rest-middle.is) ∙ more in
    record {
      order =
          ap (λ es. are_in_order (names es)) c.front_half-rest.ensures
          ∙ front-in-order (length c.loop-rest.rest.now / 2) c.loop-rest.rest.now c.loop-rest.invariant.order;
      within =
          omega (
            arith,
            c.loop-rest.invariant.within,
            ap length c.front_half-rest.ensures,
            front-short (length c.loop-rest.rest.now / 2) c.loop-rest.rest.now,
          );
      same =
          omega (
            arith,
            c.loop-rest.invariant.same,
            ap (λ es. less_count (chars c.args.name.now) (names es)) c.front_half-rest.ensures,
            half-front (chars c.args.name.now) c.loop-rest.rest.now (length c.loop-rest.rest.now / 2) c.index-rest-middle.result
                middle there,
          );
    }
