use Rattle.std.proofs.Common.{◌≡◌, drop}
use Rattle.serde_json.specs.View.{items_view}
use Rattle.request_model.specs.Requests.{texts_of_items}
use Rattle.relayout_requests.proofs.MembersLemmas.{texts_behind}
use Rattle.relayout_requests.proofs.members.texts_of_items.Given as goal

-- the texts so far and those of the rest are those of all
abbrev pub invariant-loop-item : goal.invariant-loop-item
invariant-loop-item l = texts_behind l.texts (texts_of_items (items_view (drop l.item-index l.items))) ≡ texts_of_items (items_view l.items)
