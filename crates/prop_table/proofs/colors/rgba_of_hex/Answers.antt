use Rattle.std.proofs.Common.{◌∙◌, ap}
use Rattle.value_model.specs.Colors as model
use Rattle.prop_table.proofs.HexColors.{hex-text}
use Rattle.prop_table.proofs.colors.rgba_of_hex.Goals as goal

pub returns : goal.returns
returns c =
    c.rgba_of_digits.ensures
    ∙ (ap model.rgba_of_hex c.as_bytes.ensures.value
    ∙ hex-text c.as_str.result.now c.args.name.now c.as_str.ensures.characters c.as_str.ensures.bytes)
