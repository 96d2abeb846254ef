use Rattle.std.proofs.Common.{◌≡◌, rules}
use Rattle.custom_props.proofs.SameLists.{same_value}
use Rattle.custom_props.proofs.sameness.is_same_value.Goals as goal

pub returns-then-same : goal.returns-then-same
returns-then-same c =
    let first : c.as_slice.result.now ≡ c.args.a.now.value.value = search rules in
    let second : c.as_slice-then-same.result.now ≡ c.args.b.now.value.value = search rules in
    let same = same_value c.args.a.now c.args.b.now c.as_slice.result.now c.as_slice-then-same.result.now first second
    (c.same.ensures.0 c.if-same.true) in
    ((λ r. same.0 (c.are_same.ensures.0 r)), (λ e. c.are_same.ensures.1 (same.1 e)))
