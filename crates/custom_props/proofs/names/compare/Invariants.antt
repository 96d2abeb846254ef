use Rattle.std.proofs.Common.{◌≡◌, length}
use Rattle.std.specs.Str.{IsUtf8, chars}
use Rattle.std.specs.Str.Iter.{chars_rest}
use Rattle.custom_props.specs.inner.Places.{order_of}
use Rattle.custom_props.proofs.names.compare.Given as goal

-- what is left of both stands as the whole texts do
abbrev pub invariant-loop-c : goal.invariant-loop-c
invariant-loop-c l = record {
  left : IsUtf8 (chars_rest l.left);
  right : IsUtf8 (chars_rest l.right);
  same : order_of (chars (chars_rest l.left)) (chars (chars_rest l.right)) ≡ order_of (chars l.a) (chars l.b);
}

abbrev pub decreases-loop-c : goal.decreases-loop-c
decreases-loop-c l = length (chars_rest l.left)
