use Rattle.std.proofs.Common.{rules, ◌≡◌, ◌∙◌, ap}
use Rattle.std.specs.Result.{is_ok}
use Rattle.std.specs.Str.{chars}
use Rattle.custom_model.specs.NamedValues.{are_in_order}
use Rattle.cascade_core.specs.inner.Customs.{less_count, name_of, names, stands_at}
use Rattle.cascade_core.proofs.CustomPlaces.{inserted, left, written}
use Rattle.cascade_core.proofs.CustomWinners.{order-inserted, order-offered}
use Rattle.cascade_core.proofs.customs.Customs.offer.Goals as goal

pub invariant_of-self : goal.invariant_of-self
invariant_of-self c =
    let items = c.args.self.now.entries.items in
    let named : chars c.as_str.result.now ≡ name_of c.args.later = search rules in
    let at : c.place_for-place.result ≡ less_count (chars c.as_str.result.now) (names items) = search rules in
    let stands : c.stands_at.result ≡ stands_at c.place_for-place.result (chars c.as_str.result.now) items = search rules in
    record {
      order =
          ap (λ es. are_in_order (names es))
          (written (chars c.as_str.result.now) c.args.later items c.place_for-place.result c.index.result.now
          c.stands_at.result c.yields.result named at stands c.if-stands_at.true (search rules) (search rules) c.if-yields.true)
          ∙ order-offered c.args.later items c.args.self.now.order;
    }

pub returns-then-yields : goal.returns-then-yields
returns-then-yields c =
    let items = c.args.self.now.entries.items in
    let named : chars c.as_str.result.now ≡ name_of c.args.later = search rules in
    let at : c.place_for-place.result ≡ less_count (chars c.as_str.result.now) (names items) = search rules in
    let stands : c.stands_at.result ≡ stands_at c.place_for-place.result (chars c.as_str.result.now) items = search rules in
    written (chars c.as_str.result.now) c.args.later items c.place_for-place.result c.index.result.now
    c.stands_at.result c.yields.result named at stands c.if-stands_at.true (search rules) (search rules) c.if-yields.true

pub returns-else-yields : goal.returns-else-yields
returns-else-yields c =
    let items = c.args.self.now.entries.items in
    let named : chars c.as_str.result.now ≡ name_of c.args.later = search rules in
    let at : c.place_for-place.result ≡ less_count (chars c.as_str.result.now) (names items) = search rules in
    let stands : c.stands_at.result ≡ stands_at c.place_for-place.result (chars c.as_str.result.now) items = search rules in
    left (chars c.as_str.result.now) c.args.later items c.place_for-place.result c.index.result.now
    c.stands_at.result c.yields.result named at stands c.if-stands_at.true (search rules) (search rules) c.if-yields.false

pub invariant_of-self-2 : goal.invariant_of-self-2
invariant_of-self-2 c =
    let items = c.args.self.now.entries.items in
    let named : chars c.as_str.result.now ≡ name_of c.args.later = search rules in
    let at : c.place_for-place.result ≡ less_count (chars c.as_str.result.now) (names items) = search rules in
    let stands : c.stands_at.result ≡ stands_at c.place_for-place.result (chars c.as_str.result.now) items = search rules in
    record {
      order =
          order-inserted c.args.later items c.insert.new.self.items c.place_for-place.result (is_ok c.insert.result)
          (inserted (chars c.as_str.result.now) c.args.later items c.place_for-place.result
          c.stands_at.result named at stands c.if-stands_at.false)
          c.args.self.now.order c.insert.ensures.items;
    }

pub returns : goal.returns
returns c =
    let items = c.args.self.now.entries.items in
    let named : chars c.as_str.result.now ≡ name_of c.args.later = search rules in
    let at : c.place_for-place.result ≡ less_count (chars c.as_str.result.now) (names items) = search rules in
    let stands : c.stands_at.result ≡ stands_at c.place_for-place.result (chars c.as_str.result.now) items = search rules in
    c.in_ok-insert.ensures.items
    ∙ inserted (chars c.as_str.result.now) c.args.later items c.place_for-place.result
    c.stands_at.result named at stands c.if-stands_at.false
