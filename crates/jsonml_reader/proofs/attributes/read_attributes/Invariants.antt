-- What was read so far, and then what is left, is what the whole object stands for.
use Rattle.std.proofs.Common.{◌≡◌}
use Rattle.page_model.specs.Jsonml.{attributes_of, with_members}
use Rattle.serde_json.specs.View.{members_view}
use Rattle.jsonml_reader.proofs.attributes.read_attributes.Given as goal

abbrev pub invariant-loop-name : goal.invariant-loop-name
invariant-loop-name l = with_members l.attributes (members_view l.name-iterator) ≡ attributes_of (members_view l.members.entries)
