use Rattle.std.proofs.Common.{◌≡◌, ◌++◌, length, string_bytes}
use Rattle.std.specs.Str.{chars, IsUtf8}
use Rattle.css_model.specs.Parts.{meanings}
use Rattle.css_model.specs.inner.Fronts.{parts_in}
use Rattle.css_tokens.proofs.parts.meaning_of_escapes.Given as goal

abbrev pub invariant-loop-part : goal.invariant-loop-part
invariant-loop-part l = record {
  utf8 : IsUtf8 l.left;
  means : chars (string_bytes l.text) ++ meanings l.place (parts_in l.place (chars l.left)) ≡ meanings l.place (parts_in l.place (chars l.cs));
}

abbrev pub decreases-loop-part : goal.decreases-loop-part
decreases-loop-part l = length (chars l.left)
