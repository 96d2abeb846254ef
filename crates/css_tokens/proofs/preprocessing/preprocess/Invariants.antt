use Rattle.std.proofs.Common.{◌≡◌, string_bytes}
use Rattle.std.specs.Str.{chars}
use Rattle.css_model.specs.Preprocessing.{preprocessed}
use Rattle.css_tokens.specs.inner.Replacing.{last_after}
use Rattle.css_tokens.proofs.preprocessing.preprocess.Given as goal

abbrev pub invariant-loop-c : goal.invariant-loop-c
invariant-loop-c l = record {
  kept : chars (string_bytes l.kept) ≡ preprocessed l.yielded;
  before : l.before ≡ last_after 0 l.yielded;
}
