-- Where the items of a box stand, and how high they are together (CSS 2.1, sections 9.4.1, 10.6.3 and 10.8.1). Offsets
-- are counted from the top of the content box, and are exact.
use Rattle.std.specs.Prelude.{ℤ, pos, ◌+ℤ◌, ◌||◌, if◌then◌else◌, List, [], ◌∷◌, reverse, Option, Some, None, option_map, Bool}
use Rattle.std.specs.Option.{option_or}
use Rattle.units64.specs.Limits.{clamped_units}
use Rattle.flow_model.specs.declared.flow_item.FlowItem.{FlowItem}
use Rattle.flow_model.specs.declared.margins.Margins.{Margins}
use Rattle.flow_model.specs.declared.used.Used.{Used}
use Rattle.flow_model.specs.MarginSets.{joined, collapsed}
use Rattle.flow_model.specs.Collapsing.{is_through, item_height, top_of, bottom_of, baseline_of, sets_above, is_top_open, is_bottom_open, trail, top_set, bottom_set, is_box_through}
use Rattle.flow_model.specs.UsedLengths.{not_below_zero}

-- ---- offsets

-- Where something stands below this bottom edge of a solid item, with this margin between. Where nothing solid is
-- above, it stands at the top if the top is open, since its margins are outside then, and else below them.
abbrev pub offset_at : Used → (edge : Option ℤ) → (margin : ℤ) → ℤ
offset_at u (Some edge) margin = edge +ℤ margin
offset_at u None margin = if is_top_open u then pos 0 else margin

-- the top edge of an item below these, the nearest first, of which this is the bottom edge of the nearest solid one
abbrev pub item_offset_below : Used → (edge : Option ℤ) → (above : List FlowItem) → FlowItem → ℤ
item_offset_below u edge above item =
    offset_at u edge (collapsed (joined (top_of item ∷ sets_above above)))

-- the bottom edge of the nearest solid item
abbrev pub solid_edge : Used → (above : List FlowItem) → Option ℤ
solid_edge u [] = None
solid_edge u (item ∷ above) =
    if is_through item then solid_edge u above
    else Some (item_offset_below u (solid_edge u above) above item +ℤ item_height item)

-- the top edge of an item below these, the nearest first
abbrev pub item_offset : Used → (above : List FlowItem) → FlowItem → ℤ
item_offset u above item = item_offset_below u (solid_edge u above) above item

-- of all these items, below those above
abbrev pub offsets_below : Used → (above : List FlowItem) → List FlowItem → List ℤ
offsets_below u above [] = []
offsets_below u above (item ∷ items) =
    item_offset u above item ∷ offsets_below u (item ∷ above) items

-- ---- the height of contents

-- how far down contents reach, the last solid item to this bottom edge, with this margin after it
abbrev pub contents_end : Used → (edge : Option ℤ) → (margin : ℤ) → ℤ
contents_end u (Some edge) margin = if is_bottom_open u then edge else edge +ℤ margin
contents_end u None margin = if is_top_open u || is_bottom_open u then pos 0 else margin

-- the `auto` height of the content box
abbrev pub auto_height : Used → List FlowItem → ℤ
auto_height u items = clamped_units (not_below_zero (
    contents_end u (solid_edge u (reverse items)) (collapsed (trail u items))))

-- ---- baselines

-- the last baseline of these items, the last of them first, below the top border edge of the box
abbrev pub baseline_among : Used → List FlowItem → Option ℤ
baseline_among u [] = None
baseline_among u (item ∷ above) =
    option_or (option_map (λ b. clamped_units (u.bt +ℤ u.pt +ℤ item_offset u above item +ℤ b)) (baseline_of item))
    (baseline_among u above)

-- under layout containment a box has no baseline (CSS Containment 2, section 3.2)
abbrev pub last_baseline : Used → List FlowItem → Option ℤ
last_baseline u items = if u.layout_contained then None else baseline_among u (reverse items)

-- ---- all of it

-- what is found for a box and its items
pub record Placement : Type 0 where
  pub offsets : List ℤ
  pub auto_height : ℤ
  pub top : Margins
  pub bottom : Margins
  pub through : Bool
  pub baseline : Option ℤ

abbrev pub placement : Used → List FlowItem → Placement
placement u items = record {
  offsets = offsets_below u [] items;
  auto_height = auto_height u items;
  top = top_set u items;
  bottom = bottom_set u items;
  through = is_box_through u items;
  baseline = last_baseline u items;
}
