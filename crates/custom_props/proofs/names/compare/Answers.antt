use Rattle.std.proofs.Common.{rules, ◌≡◌, ◌++◌, ◌∙◌, length, sym}
use Rattle.std.specs.Prelude.{encode_utf8}
use Rattle.std.specs.Str.Iter.{chars_rest}
use Rattle.std.proofs.lemmas.Str.{IsUtf8-past_char}
use Rattle.custom_props.proofs.TextOrder.{next-is, next-is-not, next-none, next-some, order-equal, order-greater, order-less, order-other, order-same}
use Rattle.custom_props.proofs.names.compare.Goals as goal

pub returns-in_default-next : goal.returns-in_default-next
returns-in_default-next c =
    let more : chars_rest c.loop-c.left ≡ encode_utf8 c.in-Some.c ++ chars_rest c.next.new.self = next-some _ _ c.next.result c.in-Some.c (search rules) c.next.ensures.steps in
    let none : length (chars_rest c.loop-c.right) ≡ 0 = next-none _ _ c.next-in-Some.result (search rules) c.next-in-Some.ensures.steps in
    sym (order-greater (chars_rest c.loop-c.left) (chars_rest c.loop-c.right) (chars_rest c.next.new.self) c.in-Some.c c.loop-c.invariant.left more none) ∙ c.loop-c.invariant.same

pub returns-then-c-d : goal.returns-then-c-d
returns-then-c-d c =
    let more : chars_rest c.loop-c.left ≡ encode_utf8 c.in-Some.c ++ chars_rest c.next.new.self = next-some _ _ c.next.result c.in-Some.c (search rules) c.next.ensures.steps in
    let other : chars_rest c.loop-c.right ≡ encode_utf8 c.in-Some-next.d ++ chars_rest c.next-in-Some.new.self = next-some _ _ c.next-in-Some.result c.in-Some-next.d (search rules) c.next-in-Some.ensures.steps in
    c.order_of_two.ensures
    ∙ (sym (order-other (chars_rest c.loop-c.left) (chars_rest c.loop-c.right) (chars_rest c.next.new.self) (chars_rest c.next-in-Some.new.self) c.in-Some.c c.in-Some-next.d c.loop-c.invariant.left c.loop-c.invariant.right more other (search rules))
    ∙ c.loop-c.invariant.same)

pub loop-c-preserved : goal.loop-c-preserved
loop-c-preserved c =
    let more : chars_rest c.loop-c.left ≡ encode_utf8 c.in-Some.c ++ chars_rest c.next.new.self = next-some _ _ c.next.result c.in-Some.c (search rules) c.next.ensures.steps in
    let other : chars_rest c.loop-c.right ≡ encode_utf8 c.in-Some-next.d ++ chars_rest c.next-in-Some.new.self = next-some _ _ c.next-in-Some.result c.in-Some-next.d (search rules) c.next-in-Some.ensures.steps in
    record {
      left = IsUtf8-past_char (chars_rest c.loop-c.left) (chars_rest c.next.new.self) c.in-Some.c c.loop-c.invariant.left more;
      right = IsUtf8-past_char (chars_rest c.loop-c.right) (chars_rest c.next-in-Some.new.self) c.in-Some-next.d c.loop-c.invariant.right other;
      same = sym (order-same (chars_rest c.loop-c.left) (chars_rest c.loop-c.right) (chars_rest c.next.new.self) (chars_rest c.next-in-Some.new.self) c.in-Some.c c.in-Some-next.d c.loop-c.invariant.left c.loop-c.invariant.right more other (search rules))
          ∙ c.loop-c.invariant.same;
    }

pub returns-then-is_some : goal.returns-then-is_some
returns-then-is_some c =
    let none : length (chars_rest c.loop-c.left) ≡ 0 = next-none _ _ c.next.result (search rules) c.next.ensures.steps in
    let some = next-is c.next-2.result (search rules) in
    let other : chars_rest c.loop-c.right ≡ encode_utf8 some.0 ++ chars_rest c.next-2.new.self = next-some _ _ c.next-2.result some.0 some.1 c.next-2.ensures.steps in
    sym (order-less (chars_rest c.loop-c.left) (chars_rest c.loop-c.right) (chars_rest c.next-2.new.self) some.0 none c.loop-c.invariant.right other) ∙ c.loop-c.invariant.same

pub returns-else-is_some : goal.returns-else-is_some
returns-else-is_some c =
    let none : length (chars_rest c.loop-c.left) ≡ 0 = next-none _ _ c.next.result (search rules) c.next.ensures.steps in
    let none' : length (chars_rest c.loop-c.right) ≡ 0 = next-none _ _ c.next-2.result (next-is-not c.next-2.result (search rules)) c.next-2.ensures.steps in
    sym (order-equal (chars_rest c.loop-c.left) (chars_rest c.loop-c.right) none none') ∙ c.loop-c.invariant.same
