use Rattle.std.proofs.Common.{ap, length, min, nat_lt, ◌-◌, ◌^◌, ◌∙◌, ◌≡◌}
use Rattle.std.specs.List.{list_any}
use Rattle.page_model.specs.Trees.{Attribute, is_badly_named, is_long, value_size}
use Rattle.page_model.specs.declared.limits.TheConstants.{MAX_ATTRIBUTES}
use Rattle.dom_arena.proofs.sizes.by_itself.Goals as goal

pub returns : goal.returns
returns c =
    let same : c.as_slice-list.result.now ≡ c.args.attributes.now = c.as_slice-list.ensures.value in
    let points : c.value_code_points.result ≡ min (value_size c.args.attributes.now) (2 ^ 64 - 1) = c.value_code_points.ensures ∙ ap (λ list. min (value_size list) (2 ^ 64 - 1)) same in
    let bad : c.is_badly_named.result ≡ is_badly_named c.args.name.now c.args.attributes.now = c.is_badly_named.ensures ∙ ap (is_badly_named c.args.name.now) same in
    let many : c.has_many.result ≡ nat_lt MAX_ATTRIBUTES (length c.args.attributes.now) = c.has_many.ensures ∙ ap (λ list. nat_lt MAX_ATTRIBUTES (length list)) same in
    let long : c.has_long_value.result ≡ list_any (λ (a : Attribute). is_long a.1) c.args.attributes.now = c.has_long_value.ensures ∙ ap (list_any (λ (a : Attribute). is_long a.1)) same in
    λ j. record { levels = 0; nodes = 1; code_points = points j; bad_name = bad j; many_attributes = many j; long_text = long j }
