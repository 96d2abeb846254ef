use Rattle.std.proofs.Common.{◌∙◌, ap, sym}
use Rattle.std.proofs.lemmas.Str.{chars_from_encodes}
use Rattle.std.specs.Str.{chars}
use Rattle.page_model.specs.Attributes.{is_same_text}
use Rattle.selectors.proofs.Comparisons.{same-same}
use Rattle.selectors.proofs.names.is_name.Goals as goal

pub returns : goal.returns
returns c = λ cs ds tag name.
    c.eq.ensures
    ∙ (same-same c.args.name.now c.args.tag.now c.utf8.name c.utf8.tag
    ∙ (ap (λ es. is_same_text es (chars c.args.tag.now)) (sym (chars_from_encodes ds c.args.name.now c.utf8.name (sym name)))
    ∙ ap (is_same_text ds) (sym (chars_from_encodes cs c.args.tag.now c.utf8.tag (sym tag)))))
