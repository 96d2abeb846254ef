use Rattle.std.proofs.Common.{◌≡◌, ◌+◌, length, drop}
use Rattle.css_model.specs.inner.Pieces.{comment_inside}
use Rattle.css_tokens.proofs.comments.inside_length.Given as goal

abbrev pub invariant-loop-i : goal.invariant-loop-i
invariant-loop-i l = l.i + length (comment_inside (drop l.i l.bytes)) ≡ length (comment_inside l.bytes)
