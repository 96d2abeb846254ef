use Rattle.std.proofs.Common.{◌∙◌, ap, sym}
use Rattle.std.specs.List.{list_all}
use Rattle.css_tokens.specs.inner.Replacing.{is_kept}
use Rattle.css_tokens.proofs.PreprocessedFronts.{kept-text}
use Rattle.css_tokens.proofs.preprocessing.is_preprocessed.Goals as goal

pub returns : goal.returns
returns c = λ t. kept-text c.args.text.now c.utf8.text (ap (list_all is_kept) (sym c.as_bytes.ensures.value) ∙ (sym c.are_kept.ensures ∙ t))
