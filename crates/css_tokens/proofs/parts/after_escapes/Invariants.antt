use Rattle.std.proofs.Common.{◌≡◌, length}
use Rattle.std.specs.Str.{chars, IsUtf8}
use Rattle.css_model.specs.inner.Fronts.{parts_in, after_parts}
use Rattle.css_tokens.proofs.parts.after_escapes.Given as goal

abbrev pub invariant-loop-front : goal.invariant-loop-front
invariant-loop-front l = record {
  utf8 : IsUtf8 l.left;
  same : after_parts (parts_in l.place (chars l.left)) (chars l.left) ≡ after_parts (parts_in l.place (chars l.cs)) (chars l.cs);
}

abbrev pub decreases-loop-front : goal.decreases-loop-front
decreases-loop-front l = length (chars l.left)
