-- Which margins adjoin (CSS 2.1, section 8.3.1). The items of a box are its runs of lines and its block children, in
-- order. A margin passes through an item where the item's own top and bottom margin adjoin; the others are solid.
use Rattle.std.specs.Prelude.{ℤ, pos, ◌&&◌, not, if◌then◌else◌, List, [], ◌∷◌, reverse, Option, Some, None, is_none, Bool, true, false}
use Rattle.std.specs.List.{list_all}
use Rattle.std.specs.Ordering.{int_eq}
use Rattle.flow_model.specs.declared.flow_item.FlowItem.{FlowItem}
use Rattle.flow_model.specs.declared.flow_item.FlowItem.TheVariants.{Run, Child}
use Rattle.flow_model.specs.declared.margins.Margins.{Margins}
use Rattle.flow_model.specs.declared.used.Used.{Used}
use Rattle.flow_model.specs.MarginSets.{alone, empty, joined}

-- ---- items

abbrev pub is_through : FlowItem → Bool
is_through (Run height baseline) = false
is_through (Child id height top bottom through baseline) = through

-- the height of the item's border box
abbrev pub item_height : FlowItem → ℤ
item_height (Run height baseline) = height
item_height (Child id height top bottom through baseline) = height

-- the margins that adjoin the item's top edge; lines have none
abbrev pub top_of : FlowItem → Margins
top_of (Run height baseline) = empty
top_of (Child id height top bottom through baseline) = top

-- the margins that adjoin its bottom edge, which of an item that margins pass through are all of it
abbrev pub bottom_of : FlowItem → Margins
bottom_of (Run height baseline) = empty
bottom_of (Child id height top bottom through baseline) = bottom

-- below the item's top edge
abbrev pub baseline_of : FlowItem → Option ℤ
baseline_of (Run height baseline) = baseline
baseline_of (Child id height top bottom through baseline) = baseline

-- ---- places

abbrev pub has_solid : List FlowItem → Bool
has_solid items = not (list_all is_through items)

-- the sets of the items before the first solid one, and the top set of that; without one, the sets of all
abbrev pub sets_to_solid : List FlowItem → List Margins
sets_to_solid [] = []
sets_to_solid (item ∷ items) =
    if is_through item then bottom_of item ∷ sets_to_solid items else top_of item ∷ []

-- where these items are above, the nearest first: their sets down to the nearest solid one, of which its bottom set
abbrev pub sets_above : List FlowItem → List Margins
sets_above [] = []
sets_above (item ∷ above) =
    if is_through item then bottom_of item ∷ sets_above above else bottom_of item ∷ []

-- ---- edges at which margins adjoin

abbrev pub is_zero : ℤ → Bool
is_zero n = int_eq n (pos 0)

abbrev pub no_top_edge : Used → Bool
no_top_edge u = is_zero u.bt && is_zero u.pt

abbrev pub no_bottom_edge : Used → Bool
no_bottom_edge u = is_zero u.bb && is_zero u.pb

-- the top margin of a box adjoins that of its first child
abbrev pub is_top_open : Used → Bool
is_top_open u = not u.independent && no_top_edge u

-- the bottom margin of a box adjoins that of its last child
abbrev pub is_bottom_open : Used → Bool
is_bottom_open u =
    not u.independent && (no_bottom_edge u && (is_none u.h && (is_zero u.min_h && not u.size_contained)))

-- `auto` or 0
abbrev pub is_auto_or_zero : Option ℤ → Bool
is_auto_or_zero None = true
is_auto_or_zero (Some h) = is_zero h

-- the top and bottom margin of a box adjoin: it has no edges, no height and no lines, and those of its children do
abbrev pub is_box_through : Used → List FlowItem → Bool
is_box_through u items = not u.independent
    && (no_top_edge u && (no_bottom_edge u && (is_zero u.min_h && (is_auto_or_zero u.h && list_all is_through items))))

-- ---- sets

-- what reaches the top of the contents
abbrev pub lead : List FlowItem → Margins
lead items = joined (sets_to_solid items)

-- what reaches the bottom of the contents; without a solid item it is at the top that all of it adjoins, if that is open
abbrev pub trail : Used → List FlowItem → Margins
trail u items = if not (has_solid items) && is_top_open u then empty else joined (sets_above (reverse items))

-- the margins that adjoin the top edge of the box
abbrev pub top_set : Used → List FlowItem → Margins
top_set u items = if is_top_open u then joined (alone u.mt ∷ lead items ∷ []) else alone u.mt

-- the margins that adjoin its bottom edge
abbrev pub bottom_set_of_solid : Used → List FlowItem → Margins
bottom_set_of_solid u items =
    if is_bottom_open u then joined (alone u.mb ∷ trail u items ∷ []) else alone u.mb

abbrev pub bottom_set : Used → List FlowItem → Margins
bottom_set u items =
    if is_box_through u items then joined (top_set u items ∷ alone u.mb ∷ [])
    else bottom_set_of_solid u items
