-- What is kept of the items while they are gone through.
use Rattle.std.specs.Prelude.{◌≤ℤ◌, ℤ, pos, neg_ℤ, ◌+ℤ◌, ◌-ℤ◌, ◌&&◌, not, if◌then◌else◌, List, [], ◌∷◌, Option, Some, None, is_none, is_some, option_map, Bool}
use Rattle.std.specs.Option.{option_or}
use Rattle.units64.specs.Limits.{clamped_units}
use Rattle.flow_model.specs.declared.flow_item.FlowItem.{FlowItem}
use Rattle.flow_model.specs.declared.margins.Margins.{Margins}
use Rattle.flow_model.specs.declared.used.Used.{Used}
use Rattle.flow_model.specs.MarginSets.{alone, empty, joined, collapsed}
use Rattle.flow_model.specs.Collapsing.{is_through, item_height, top_of, bottom_of, baseline_of, is_zero, no_top_edge, no_bottom_edge, is_auto_or_zero, is_top_open, is_bottom_open}
use Rattle.flow_model.specs.Offsets.{offset_at, contents_end}
use Rattle.flow_model.specs.UsedLengths.{not_below_zero}
use Rattle.margin_flow.specs.declared.contents.Contents.{Contents}
use Rattle.margin_flow.specs.declared.contents.Ends.{Ends}
use Rattle.margin_flow.specs.Room.{most_room}

abbrev pub no_contents : Contents
no_contents = record { edge = None; meeting = empty; lead = empty; baseline = None }

-- the offset of the next item
abbrev pub next_offset : Used → Contents → FlowItem → ℤ
next_offset u c item = offset_at u c.edge (collapsed (joined (top_of item ∷ c.meeting ∷ [])))

abbrev pub next_edge : Contents → FlowItem → (offset : ℤ) → Option ℤ
next_edge c item offset = if is_through item then c.edge else Some (offset +ℤ item_height item)

abbrev pub next_meeting : Contents → FlowItem → Margins
next_meeting c item =
    if is_through item then joined (bottom_of item ∷ c.meeting ∷ []) else joined (bottom_of item ∷ [])

-- the set of an item that nothing solid is above
abbrev pub first_set : FlowItem → Margins
first_set item = if is_through item then bottom_of item else top_of item

abbrev pub next_lead : Contents → FlowItem → Margins
next_lead c item = if is_some c.edge then c.lead else joined (c.lead ∷ first_set item ∷ [])

abbrev pub next_baseline : Used → Contents → FlowItem → (offset : ℤ) → Option ℤ
next_baseline u c item offset =
    option_or (option_map (λ b. clamped_units (u.bt +ℤ u.pt +ℤ offset +ℤ b)) (baseline_of item)) c.baseline

-- after one item more, at this offset
abbrev pub contents_after : Used → Contents → FlowItem → (offset : ℤ) → Contents
contents_after u c item offset = record {
  edge = next_edge c item offset;
  meeting = next_meeting c item;
  lead = next_lead c item;
  baseline = next_baseline u c item offset;
}

-- after all these items, the nearest first
abbrev pub contents_of : Used → List FlowItem → Contents
contents_of u [] = no_contents
contents_of u (item ∷ above) =
    contents_after u (contents_of u above) item (next_offset u (contents_of u above) item)

-- ---- what follows for the box

abbrev pub trail_of : Used → Contents → Margins
trail_of u c = if is_none c.edge && is_top_open u then empty else c.meeting

abbrev pub top_with : Used → Contents → Margins
top_with u c = if is_top_open u then joined (alone u.mt ∷ c.lead ∷ []) else alone u.mt

abbrev pub is_through_with : Used → Contents → Bool
is_through_with u c = not u.independent
    && (no_top_edge u && (no_bottom_edge u && (is_zero u.min_h && (is_auto_or_zero u.h && is_none c.edge))))

abbrev pub bottom_with : Used → Contents → Margins
bottom_with u c =
    if is_through_with u c then joined (top_with u c ∷ alone u.mb ∷ [])
    else (if is_bottom_open u then joined (alone u.mb ∷ trail_of u c ∷ []) else alone u.mb)

abbrev pub height_with : Used → Contents → ℤ
height_with u c = clamped_units (not_below_zero (contents_end u c.edge (collapsed (trail_of u c))))

abbrev pub ends_of : Used → Contents → Ends
ends_of u c = record {
  auto_height = height_with u c;
  top = top_with u c;
  bottom = bottom_with u c;
  through = is_through_with u c;
  baseline = if u.layout_contained then None else c.baseline;
}

-- ---- room

-- an edge stands so far from the ends of what offsets can be
abbrev pub LeavesRoom : Option ℤ → ℤ → Type 0
LeavesRoom None left = Unit {0}
LeavesRoom (Some edge) left = ((edge +ℤ left) ≤ℤ most_room) × (neg_ℤ most_room ≤ℤ (edge -ℤ left))
