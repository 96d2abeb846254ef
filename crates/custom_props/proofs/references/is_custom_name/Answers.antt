use Rattle.std.proofs.Common.{◌∙◌, ap, codes, length, nat_lt, ◌&&◌}
use Rattle.css_model.specs.Classes.{has_front}
use Rattle.custom_props.proofs.CustomNames.{custom_name_is}
use Rattle.custom_props.proofs.references.is_custom_name.Goals as goal

pub returns : goal.returns
returns c =
    c.is_custom_name_in.ensures
    ∙ (ap (λ bs. nat_lt 2 (length bs) && has_front (codes "--") bs) c.as_bytes.ensures.value
    ∙ custom_name_is c.args.name.now c.utf8.name)
