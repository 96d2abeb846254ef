use Rattle.std.proofs.Common.{rules, ◌≡◌, ◌∙◌, ap, ap₂, pos, ◌*ℤ◌, int_div}
use Rattle.units64.specs.Conversions.{millionths_of}
use Rattle.units64.specs.Limits.{clamped_millionths}
use Rattle.value_parts.proofs.Products.{product_assoc}
use Rattle.value_parts.proofs.values.dimension_value.Goals as goal

pub returns : goal.returns
returns c =
    let made : c.mul_ratio.result ≡ clamped_millionths (int_div (c.args.number *ℤ c.times-dividend.result) c.in_pixels-divisor.result) = search rules in
    let times = ap (λ t. c.args.number *ℤ t) c.times-dividend.ensures
    ∙ product_assoc c.args.number c.args.unit.numerator (millionths_of c.base_length-base.result) in
    made ∙ ap clamped_millionths (ap₂ int_div (times
    ∙ ap (λ base. c.args.number *ℤ pos c.args.unit.numerator *ℤ millionths_of base) c.base_length-base.ensures) c.in_pixels-divisor.ensures)
