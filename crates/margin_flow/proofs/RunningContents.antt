-- What is kept of the items is what is said of them by their places.
use Rattle.std.proofs.Common.{rules, arith, ◌∙◌, sym, ap, refl, subst}
use Rattle.std.specs.Prelude.{◌≡◌, ℤ, pos, ◌+ℤ◌, ◌&&◌, not, if◌then◌else◌, List, [], ◌∷◌, ◌++◌, reverse, Option, Some, None, is_none, is_some, option_map, Bool, true, false}
use Rattle.std.specs.List.{list_all}
use Rattle.std.specs.Option.{option_or}
use Rattle.std.proofs.lemmas.List.{append-nil, reverse-append, reverse-reverse}
use Rattle.units64.specs.Limits.{clamped_units}
use Rattle.flow_model.specs.declared.flow_item.FlowItem.{FlowItem}
use Rattle.flow_model.specs.declared.margins.Margins.{Margins}
use Rattle.flow_model.specs.declared.used.Used.{Used}
use Rattle.flow_model.specs.MarginSets.{alone, empty, joined, collapsed}
use Rattle.flow_model.specs.Collapsing.{is_through, item_height, top_of, bottom_of, baseline_of, has_solid, sets_to_solid, sets_above, is_zero, no_top_edge, no_bottom_edge, is_auto_or_zero, is_top_open, is_bottom_open, is_box_through, lead, trail, top_set, bottom_set}
use Rattle.flow_model.specs.Offsets.{offset_at, solid_edge, item_offset, baseline_among, contents_end, auto_height, last_baseline, offsets_below, Placement, placement}
use Rattle.flow_model.specs.UsedLengths.{not_below_zero}
use Rattle.margin_flow.specs.declared.contents.Contents.{Contents}
use Rattle.margin_flow.specs.declared.contents.Ends.{Ends}
use Rattle.margin_flow.specs.inner.Running.{contents_of, next_offset, first_set, ends_of, trail_of}
use Rattle.flow_laws.proofs.RunningSets.{meeting-step, has_solid-snoc, sets_to_solid-snoc, lead-step}
use Rattle.flow_laws.proofs.SeenSets.{joined_cons}

-- ---- margins after the last solid item

pub meeting-is : (u : Used) (above : List FlowItem) → (contents_of u above).meeting ≡ joined (sets_above above)
meeting-is u [] = refl
meeting-is u (item ∷ above) =
    meeting-step (is_through item) (bottom_of item) (contents_of u above).meeting (sets_above above) (meeting-is u above)

-- ---- edges and offsets

offset-from : (u : Used) (above : List FlowItem) (item : FlowItem) → (contents_of u above).edge ≡ solid_edge u above
    → next_offset u (contents_of u above) item ≡ item_offset u above item
offset-from u above item e =
    let met : joined (top_of item ∷ (contents_of u above).meeting ∷ []) ≡ joined (top_of item ∷ sets_above above) =
    ap (λ (x : Margins). joined (top_of item ∷ x ∷ [])) (meeting-is u above) ∙ joined_cons (top_of item) (sets_above above) in
    λ j. offset_at u (e j) (collapsed (met j))

pub edge-is : (u : Used) (above : List FlowItem) → (contents_of u above).edge ≡ solid_edge u above
edge-is u [] = refl
edge-is u (item ∷ above) =
    let edge = edge-is u above in
    let offset = offset-from u above item edge in
    λ j. if is_through item then edge j else Some (offset j +ℤ item_height item)

pub offset-is : (u : Used) (above : List FlowItem) (item : FlowItem)
    → next_offset u (contents_of u above) item ≡ item_offset u above item
offset-is u above item = offset-from u above item (edge-is u above)

-- ---- baselines

pub baseline-is : (u : Used) (above : List FlowItem) → (contents_of u above).baseline ≡ baseline_among u above
baseline-is u [] = refl
baseline-is u (item ∷ above) =
    let before = baseline-is u above in
    let offset = offset-is u above item in
    λ j. option_or (option_map (λ b. clamped_units (u.bt +ℤ u.pt +ℤ offset j +ℤ b)) (baseline_of item)) (before j)

-- ---- solid items

edge-exists : (b s : Bool) (e : Option ℤ) (n : ℤ) → is_some e ≡ s → is_some (if b then e else Some n) ≡ (if s then true else not b)
edge-exists true true e n h = h
edge-exists true false e n h = h
edge-exists false true e n h = refl
edge-exists false false e n h = refl

reverse-cons : (x : FlowItem) (xs : List FlowItem) → reverse (x ∷ xs) ≡ reverse xs ++ x ∷ []
reverse-cons x xs = reverse-append (x ∷ []) xs

-- there is an edge where there is a solid item
pub solid-is : (u : Used) (above : List FlowItem) → is_some (contents_of u above).edge ≡ has_solid (reverse above)
solid-is u [] = refl
solid-is u (item ∷ above) =
    edge-exists (is_through item) (has_solid (reverse above)) (contents_of u above).edge
    (next_offset u (contents_of u above) item +ℤ item_height item) (solid-is u above)
    ∙ (sym (has_solid-snoc (reverse above) item) ∙ ap (λ (xs : List FlowItem). has_solid xs) (sym (reverse-cons item above)))

-- ---- margins up to the first solid item

pub lead-is : (u : Used) (above : List FlowItem) → (contents_of u above).lead ≡ joined (sets_to_solid (reverse above))
lead-is u [] = refl
lead-is u (item ∷ above) =
    let before = (contents_of u above).lead in
    ap (λ (s : Bool). if s then before else joined (before ∷ first_set item ∷ [])) (solid-is u above)
    ∙ (lead-step (has_solid (reverse above)) before (first_set item) (sets_to_solid (reverse above)) (lead-is u above)
    ∙ (ap (λ (xs : List Margins). joined xs) (sym (sets_to_solid-snoc (reverse above) item))
    ∙ ap (λ (xs : List FlowItem). joined (sets_to_solid xs)) (sym (reverse-cons item above))))

-- ---- of all items

none-some : (e : Option ℤ) → is_none e ≡ not (is_some e)
none-some None = refl
none-some (Some n) = refl

not-not : (b : Bool) → not (not b) ≡ b
not-not true = refl
not-not false = refl

no_edge-is : (u : Used) (items : List FlowItem) → is_none (contents_of u (reverse items)).edge ≡ not (has_solid items)
no_edge-is u items = none-some (contents_of u (reverse items)).edge
    ∙ (ap (λ (s : Bool). not s) (solid-is u (reverse items)) ∙ ap (λ (xs : List FlowItem). not (has_solid xs)) (reverse-reverse items))

all_through-is : (u : Used) (items : List FlowItem) → is_none (contents_of u (reverse items)).edge ≡ list_all is_through items
all_through-is u items = no_edge-is u items ∙ not-not (list_all is_through items)

whole_lead-is : (u : Used) (items : List FlowItem) → (contents_of u (reverse items)).lead ≡ lead items
whole_lead-is u items = lead-is u (reverse items) ∙ ap (λ (xs : List FlowItem). joined (sets_to_solid xs)) (reverse-reverse items)

trail-is : (u : Used) (items : List FlowItem) → trail_of u (contents_of u (reverse items)) ≡ trail u items
trail-is u items =
    let none = no_edge-is u items in
    let met = meeting-is u (reverse items) in
    λ j. if none j && is_top_open u then empty else met j

edge-of_all : (u : Used) (items : List FlowItem) → (contents_of u (reverse items)).edge ≡ solid_edge u (reverse items)
edge-of_all u items = edge-is u (reverse items)

-- what follows for a box is what is said of it
abbrev pub ends : Used → List FlowItem → Ends
ends u items = record {
  auto_height = auto_height u items;
  top = top_set u items;
  bottom = bottom_set u items;
  through = is_box_through u items;
  baseline = last_baseline u items;
}

pub ends-are : (u : Used) (items : List FlowItem) → ends_of u (contents_of u (reverse items)) ≡ ends u items
ends-are u items =
    let met = trail-is u items in
    let led = whole_lead-is u items in
    let all = all_through-is u items in
    let edge = edge-is u (reverse items) in
    let last = baseline-is u (reverse items) in
    λ j. record {
      auto_height = clamped_units (not_below_zero (contents_end u (edge j) (collapsed (met j))));
      top = if is_top_open u then joined (alone u.mt ∷ led j ∷ []) else alone u.mt;
      bottom = if not u.independent && (no_top_edge u && (no_bottom_edge u && (is_zero u.min_h && (is_auto_or_zero u.h && all j))))
          then joined ((if is_top_open u then joined (alone u.mt ∷ led j ∷ []) else alone u.mt) ∷ alone u.mb ∷ [])
          else (if is_bottom_open u then joined (alone u.mb ∷ met j ∷ []) else alone u.mb);
      through = not u.independent && (no_top_edge u && (no_bottom_edge u && (is_zero u.min_h && (is_auto_or_zero u.h && all j))));
      baseline = if u.layout_contained then None else last j;
    }

-- all that is found for a box
pub placed-is : (u : Used) (items : List FlowItem) (found : List ℤ) (contents : Contents) (e : Ends)
    → found ≡ offsets_below u [] items → contents ≡ contents_of u (reverse items) → e ≡ ends_of u contents
    → record {
      offsets = found;
      auto_height = e.auto_height;
      top = e.top;
      bottom = e.bottom;
      through = e.through;
      baseline = e.baseline;
    } ≡ placement u items
placed-is u items found contents e offsets kept is =
    let all : e ≡ ends u items = is ∙ (ap (λ (c : Contents). ends_of u c) kept ∙ ends-are u items) in
    λ j. record {
      offsets = offsets j;
      auto_height = (all j).auto_height;
      top = (all j).top;
      bottom = (all j).bottom;
      through = (all j).through;
      baseline = (all j).baseline;
    }
