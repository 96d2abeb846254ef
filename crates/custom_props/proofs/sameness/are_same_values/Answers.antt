use Rattle.std.proofs.Common.{◌≡◌, ◌∙◌, ◌<◌, ap, sym, false, length, rules}
use Rattle.std.proofs.lemmas.Bool.{false≢true}
use Rattle.custom_props.specs.Views.{value_view}
use Rattle.custom_props.proofs.SameLists.{same_at}
use Rattle.custom_props.proofs.sameness.are_same_values.Goals as goal

pub returns-then-not-is_same_value : goal.returns-then-not-is_same_value
returns-then-not-is_same_value c =
    let different : c.is_same_value.result ≡ false = search rules in
    let within : c.loop-place.place < length c.args.b.now = search rules in (
      (λ f. absurd (false≢true f)),
      (λ e. absurd (false≢true (sym different ∙ c.is_same_value.ensures.1 (ap value_view c.index-a-place.is
          ∙ (same_at value_view c.args.a.now c.args.b.now c.loop-place.place c.index-a-place.result c.index-b-place.result
          c.loop-place-test.true within e
          ∙ sym (ap value_view c.index-b-place.is)))))),
    )
