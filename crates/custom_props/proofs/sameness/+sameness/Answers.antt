use Rattle.std.proofs.Common.{◌≡◌, ◌∙◌, ◌<◌, ap, sym, false, length, rules}
use Rattle.std.proofs.lemmas.Bool.{false≢true}
use Rattle.css_tokens.specs.Nested.{component_view}
use Rattle.custom_props.proofs.ComponentViews.{view_block, view_function}
use Rattle.custom_props.proofs.SameLists.{same_at, same_block, same_function}
use Rattle.custom_props.proofs.sameness.+sameness.Goals as goal

pub are_same-returns-then-not-is_same : goal.are_same-returns-then-not-is_same
are_same-returns-then-not-is_same t c =
    let different : c.is_same.result ≡ false = search rules in
    let within : c.loop-place.place < length c.args.b.now = search rules in (
      (λ f. absurd (false≢true f)),
      (λ e. absurd (false≢true (sym different ∙ c.is_same.ensures.1 (ap component_view c.index-a-place.is
          ∙ (same_at component_view c.args.a.now c.args.b.now c.loop-place.place c.index-a-place.result c.index-b-place.result
          c.loop-place-test.true within e
          ∙ sym (ap component_view c.index-b-place.is)))))),
    )

pub is_block-returns-then-is_same_pair : goal.is_block-returns-then-is_same_pair
is_block-returns-then-is_same_pair t c =
    let pair = c.is_same_pair.ensures.0 c.if-is_same_pair.true in
    let same = same_block c.args.head.now c.in-Block.other_head c.args.contents.now c.in-Block.other_contents
    c.as_slice.result.now c.args.close.now c.in-Block.other_close (component_view c.args.b.now) pair.0 pair.1 c.as_slice.ensures
    (view_block c.args.b.now c.in-Block.other_head c.in-Block.other_contents c.in-Block.other_close c.in-Block.is) in
    ((λ r. same.0 (c.are_same.ensures.0 r)), (λ e. c.are_same.ensures.1 (same.1 e)))

pub is_function-returns-then-is_same_pair : goal.is_function-returns-then-is_same_pair
is_function-returns-then-is_same_pair t c =
    let pair = c.is_same_pair.ensures.0 c.if-is_same_pair.true in
    let same = same_function c.args.head.now c.in-Function.other_head c.args.contents.now c.in-Function.other_contents
    c.as_slice.result.now c.args.close.now c.in-Function.other_close (component_view c.args.b.now) pair.0 pair.1 c.as_slice.ensures
    (view_function c.args.b.now c.in-Function.other_head c.in-Function.other_contents c.in-Function.other_close c.in-Function.is) in
    ((λ r. same.0 (c.are_same.ensures.0 r)), (λ e. c.are_same.ensures.1 (same.1 e)))
