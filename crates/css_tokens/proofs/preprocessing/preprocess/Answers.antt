use Rattle.std.proofs.Common.{◌∙◌, ap, refl, sym, ◌++◌, map-id}
use Rattle.std.proofs.lemmas.Iterator.{YieldsList-from_chars}
use Rattle.std.proofs.lemmas.Iterator.Consumers.{YieldsList-end}
use Rattle.std.specs.Str.{chars}
use Rattle.std.proofs.lemmas.Str.{chars-nil}
use Rattle.css_model.specs.Preprocessing.{preprocessed}
use Rattle.css_tokens.specs.inner.Replacing.{kept_after}
use Rattle.css_tokens.proofs.PreprocessedFronts.{preprocessed-push, last-push}
use Rattle.css_tokens.proofs.preprocessing.preprocess.Goals as goal

pub loop-c-preserved : goal.loop-c-preserved
loop-c-preserved c = record {
  kept = c.in_ok-keep.ensures ∙ (ap (λ cs. cs ++ kept_after c.loop-c.before c.in-Some.c) c.loop-c.invariant.kept
      ∙ (ap (λ b. preprocessed c.loop-c.yielded ++ kept_after b c.in-Some.c) c.loop-c.invariant.before ∙ sym (preprocessed-push c.loop-c.yielded c.in-Some.c)));
  before = sym (last-push 0 c.loop-c.yielded c.in-Some.c);
}

pub returns : goal.returns
returns c =
    let end = YieldsList-end (YieldsList-from_chars c.args.text.now c.utf8.text cc) c.loop-c.yielded _ c.loop-c.yielded_by _ _ c.in-None.is c.next.ensures.steps in
    c.loop-c.invariant.kept ∙ ap preprocessed (sym (map-id c.loop-c.yielded) ∙ end.0)

pub loop-c-init : goal.loop-c-init
loop-c-init c = record { kept = ap chars c.in_ok-kept.ensures.bytes ∙ chars-nil; before = refl }
