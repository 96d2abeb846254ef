-- An attribute more is one more in front of what is left.
use Rattle.std.proofs.Common.{rules, ◌≡◌, ◌∷◌, sym, ◌∙◌, ap, string_bytes, Some}
use Rattle.page_model.specs.Jsonml.{with_member, with_members}
use Rattle.serde_json.specs.View.{view, members_view}
use Rattle.jsonml_reader.proofs.AttributesOf.{with_members-next}
use Rattle.jsonml_reader.proofs.attributes.read_attributes.Goals as goal

pub loop-name-preserved : goal.loop-name-preserved
loop-name-preserved c =
    let left : c.loop-name.name-iterator ≡ (c.in-Some.name.now, c.in-Some.value.now) ∷ c.next.new.self = search rules in
    let read : with_member c.loop-name.attributes (string_bytes c.in-Some.name.now) (view c.in-Some.value.now) ≡ Some c.set_member.new.attributes = search rules in
    let step = with_members-next c.loop-name.attributes c.set_member.new.attributes _ _ (members_view c.next.new.self) read in
    sym step ∙ (ap (λ es. with_members c.loop-name.attributes (members_view es)) (sym left) ∙ c.loop-name.invariant)
