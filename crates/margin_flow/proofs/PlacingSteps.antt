-- One more item is gone through.
use Rattle.std.proofs.Common.{rules, arith, ◌∙◌, sym, ap, refl, subst, suc}
use Rattle.std.specs.Prelude.{◌≡◌, ℕ, ◌<◌, ◌≤◌, ◌+◌, ℤ, pos, neg_ℤ, ◌≤ℤ◌, ◌+ℤ◌, ◌-ℤ◌, if◌then◌else◌, length, get_or, take, drop, List, [], ◌∷◌, ◌++◌, reverse, Option, Some, None, Bool, true, false}
use Rattle.std.specs.List.{All}
use Rattle.std.proofs.lemmas.Int.{ints, clamps}
use Rattle.std.proofs.lemmas.List.{reverse-append, take_more, append_assoc}
use Rattle.std.proofs.lemmas.List.Elements.{All-head, All-tail}
use Rattle.std.proofs.Math.Seq.{drop-cons}
use Rattle.units64.specs.Limits.{clamped_units}
use Rattle.flow_model.specs.declared.flow_item.FlowItem.{FlowItem}
use Rattle.flow_model.specs.declared.used.Used.{Used}
use Rattle.flow_model.specs.MarginSets.{joined, collapsed}
use Rattle.flow_model.specs.Collapsing.{is_through, item_height, top_of, is_top_open}
use Rattle.flow_model.specs.Offsets.{offset_at, item_offset, offsets_below}
use Rattle.margin_flow.specs.declared.contents.Contents.{Contents}
use Rattle.margin_flow.specs.inner.Running.{contents_of, contents_after, next_offset, LeavesRoom}
use Rattle.margin_flow.specs.Room.{room, most_room}
use Rattle.margin_flow.proofs.RunningContents.{offset-is}

-- ---- room

pub room-not_negative : (items : List FlowItem) → All (λ item. pos 0 ≤ℤ item_height item) items → pos 0 ≤ℤ room items
room-not_negative [] h = omega (arith, ints)
room-not_negative (item ∷ items) h =
    let first = All-head (λ item. pos 0 ≤ℤ item_height item) item items h in
    let rest = room-not_negative items (All-tail (λ item. pos 0 ≤ℤ item_height item) item items h) in
    omega (arith, ints)

pub room-less : (e : Option ℤ) (m n : ℤ) → n ≤ℤ m → LeavesRoom e m → LeavesRoom e n
room-less None m n h r = tt
room-less (Some e) m n h r =
    let high = r.0 in
    let low = r.1 in
    (omega (arith, ints), omega (arith, ints))

margin-low : (n : ℤ) → neg_ℤ (pos 1073741824) ≤ℤ clamped_units n
margin-low n = omega (arith, ints, clamps)

margin-high : (n : ℤ) → clamped_units n ≤ℤ pos 1073741824
margin-high n = omega (arith, ints, clamps)

-- an edge after an item of this height at an offset, where so much room is left behind it
edge-room : (top_open through : Bool) (e : Option ℤ) (v h r : ℤ) → (u : Used) → is_top_open u ≡ top_open
    → neg_ℤ (pos 1073741824) ≤ℤ v → v ≤ℤ pos 1073741824 → pos 0 ≤ℤ h → pos 0 ≤ℤ r
    → (h +ℤ pos 2147483648 +ℤ r) ≤ℤ most_room → LeavesRoom e (h +ℤ pos 2147483648 +ℤ r)
    → LeavesRoom (if through then e else Some (offset_at u e v +ℤ h)) r
edge-room top_open true e v h r u is low high hh rr all left = room-less e (h +ℤ pos 2147483648 +ℤ r) r (omega (arith, ints)) left
edge-room top_open false (Some e) v h r u is low high hh rr all left =
    let above = left.0 in
    let below = left.1 in
    (omega (arith, ints), omega (arith, ints))
edge-room true false None v h r u is low high hh rr all left = rw is (omega (arith, ints), omega (arith, ints))
edge-room false false None v h r u is low high hh rr all left = rw is (omega (arith, ints), omega (arith, ints))

-- ---- one item more

reverse-take : (items : List FlowItem) (i : ℕ) (item : FlowItem) → i < length items → item ≡ get_or items i item
    → reverse (take (i + 1) items) ≡ item ∷ reverse (take i items)
reverse-take items i item h e =
    ap (λ (xs : List FlowItem). reverse xs) (take_more items i item h)
    ∙ (reverse-append (take i items) (get_or items i item ∷ []) ∙ ap (λ (x : FlowItem). x ∷ reverse (take i items)) (sym e))

add-suc : (i : ℕ) → suc i ≡ i + 1
add-suc i = omega arith

drop-step : (items : List FlowItem) (i : ℕ) (item : FlowItem) → item ≡ get_or items i item
    → get_or items i item ∷ drop (suc i) items ≡ item ∷ drop (i + 1) items
drop-step items i item e = λ j. sym e j ∷ drop (add-suc i j) items

drop-item : (items : List FlowItem) (i : ℕ) (item : FlowItem) → i < length items → item ≡ get_or items i item
    → drop i items ≡ item ∷ drop (i + 1) items
drop-item items i item h e = drop-cons items i item h ∙ drop-step items i item e

-- while items are gone through
pub record GoesThrough (u : Used) (items : List FlowItem) (i : ℕ) (offsets : List ℤ) (contents : Contents) : Type 0 where
  pub kept : contents ≡ contents_of u (reverse (take i items))
  pub found : offsets ++ offsets_below u (reverse (take i items)) (drop i items) ≡ offsets_below u [] items
  pub edge : LeavesRoom contents.edge (room (drop i items))
  pub left : room (drop i items) ≤ℤ most_room
  pub heights : All (λ item. pos 0 ≤ℤ item_height item) (drop i items)

-- what is asked of the next item
pub record ItemFits (u : Used) (contents : Contents) (item : FlowItem) : Type 0 where
  pub edge : LeavesRoom contents.edge (pos 0)
  pub offset_low : neg_ℤ (pos 144115188075855872) ≤ℤ next_offset u contents item
  pub offset_high : next_offset u contents item ≤ℤ pos 144115188075855872
  pub height_low : pos 0 ≤ℤ item_height item
  pub height_high : item_height item ≤ℤ pos 72057594037927936

-- an offset after an edge with so much room
offset-low : (top_open : Bool) (u : Used) (e : Option ℤ) (v : ℤ) → is_top_open u ≡ top_open → LeavesRoom e (pos 0)
    → neg_ℤ (pos 1073741824) ≤ℤ v → v ≤ℤ pos 1073741824 → neg_ℤ (pos 144115188075855872) ≤ℤ offset_at u e v
offset-low top_open u (Some e) v is left low high = let below = left.1 in omega (arith, ints)
offset-low true u None v is left low high = rw is (omega (arith, ints))
offset-low false u None v is left low high = rw is (omega (arith, ints))

offset-high : (top_open : Bool) (u : Used) (e : Option ℤ) (v : ℤ) → is_top_open u ≡ top_open → LeavesRoom e (pos 0)
    → neg_ℤ (pos 1073741824) ≤ℤ v → v ≤ℤ pos 1073741824 → offset_at u e v ≤ℤ pos 144115188075855872
offset-high top_open u (Some e) v is left low high = let above = left.0 in omega (arith, ints)
offset-high true u None v is left low high = rw is (omega (arith, ints))
offset-high false u None v is left low high = rw is (omega (arith, ints))

sum-high : (h r : ℤ) → pos 0 ≤ℤ r → (h +ℤ pos 2147483648 +ℤ r) ≤ℤ most_room → h ≤ℤ pos 72057594037927936
sum-high h r rr all = omega (arith, ints)

sum-rest : (h r : ℤ) → pos 0 ≤ℤ h → (h +ℤ pos 2147483648 +ℤ r) ≤ℤ most_room → r ≤ℤ most_room
sum-rest h r hh all = omega (arith, ints)

pub item-fits : (u : Used) (items : List FlowItem) (i : ℕ) (offsets : List ℤ) (contents : Contents) (item : FlowItem)
    → i < length items → item ≡ get_or items i item → GoesThrough u items i offsets contents → ItemFits u contents item
item-fits u items i offsets contents item h e g =
    let front = drop-item items i item h e in
    let heights : All (λ item. pos 0 ≤ℤ item_height item) (item ∷ drop (i + 1) items) =
    subst (λ (xs : List FlowItem). All (λ item. pos 0 ≤ℤ item_height item) xs) front g.heights in
    let first : pos 0 ≤ℤ item_height item = All-head (λ item. pos 0 ≤ℤ item_height item) item (drop (i + 1) items) heights in
    let others = All-tail (λ item. pos 0 ≤ℤ item_height item) item (drop (i + 1) items) heights in
    let all : (item_height item +ℤ pos 2147483648 +ℤ room (drop (i + 1) items)) ≤ℤ most_room =
    subst (λ (xs : List FlowItem). room xs ≤ℤ most_room) front g.left in
    let rest = room-not_negative (drop (i + 1) items) others in
    let edge = room-less contents.edge (room (drop i items)) (pos 0) (room-not_negative (drop i items) g.heights) g.edge in
    let margin = collapsed (joined (top_of item ∷ contents.meeting ∷ [])) in
    let low = margin-low ((joined (top_of item ∷ contents.meeting ∷ [])).positive +ℤ (joined (top_of item ∷ contents.meeting ∷ [])).negative) in
    let high = margin-high ((joined (top_of item ∷ contents.meeting ∷ [])).positive +ℤ (joined (top_of item ∷ contents.meeting ∷ [])).negative) in
    record {
      edge = edge;
      offset_low = offset-low (is_top_open u) u contents.edge margin refl edge low high;
      offset_high = offset-high (is_top_open u) u contents.edge margin refl edge low high;
      height_low = first;
      height_high = sum-high (item_height item) (room (drop (i + 1) items)) rest all;
    }

pub goes-step : (u : Used) (items : List FlowItem) (i : ℕ) (offsets : List ℤ) (contents : Contents) (item : FlowItem)
    → i < length items → item ≡ get_or items i item → GoesThrough u items i offsets contents
    → GoesThrough u items (i + 1) (offsets ++ next_offset u contents item ∷ []) (contents_after u contents item (next_offset u contents item))
goes-step u items i offsets contents item h e g =
    let above = reverse (take i items) in
    let rest = drop (i + 1) items in
    let front = drop-item items i item h e in
    let back = reverse-take items i item h e in
    let heights : All (λ item. pos 0 ≤ℤ item_height item) (item ∷ drop (i + 1) items) =
    subst (λ (xs : List FlowItem). All (λ item. pos 0 ≤ℤ item_height item) xs) front g.heights in
    let first : pos 0 ≤ℤ item_height item = All-head (λ item. pos 0 ≤ℤ item_height item) item (drop (i + 1) items) heights in
    let others = All-tail (λ item. pos 0 ≤ℤ item_height item) item (drop (i + 1) items) heights in
    let all : (item_height item +ℤ pos 2147483648 +ℤ room (drop (i + 1) items)) ≤ℤ most_room =
    subst (λ (xs : List FlowItem). room xs ≤ℤ most_room) front g.left in
    let left : LeavesRoom contents.edge (item_height item +ℤ pos 2147483648 +ℤ room (drop (i + 1) items)) =
    subst (λ (xs : List FlowItem). LeavesRoom contents.edge (room xs)) front g.edge in
    let low = margin-low ((joined (top_of item ∷ contents.meeting ∷ [])).positive +ℤ (joined (top_of item ∷ contents.meeting ∷ [])).negative) in
    let high = margin-high ((joined (top_of item ∷ contents.meeting ∷ [])).positive +ℤ (joined (top_of item ∷ contents.meeting ∷ [])).negative) in
    let offset : next_offset u contents item ≡ item_offset u above item =
    ap (λ (c : Contents). next_offset u c item) g.kept ∙ offset-is u above item in
    record {
      kept = ap (λ (c : Contents). contents_after u c item (next_offset u c item)) g.kept
          ∙ ap (λ (xs : List FlowItem). contents_of u xs) (sym back);
      found = ap (λ (xs : List FlowItem). (offsets ++ next_offset u contents item ∷ []) ++ offsets_below u xs rest) back
          ∙ (append_assoc offsets (next_offset u contents item ∷ []) (offsets_below u (item ∷ above) rest)
          ∙ (ap (λ n. offsets ++ n ∷ offsets_below u (item ∷ above) rest) offset
          ∙ (ap (λ (xs : List FlowItem). offsets ++ offsets_below u above xs) (sym front) ∙ g.found)));
      edge = edge-room (is_top_open u) (is_through item) contents.edge (collapsed (joined (top_of item ∷ contents.meeting ∷ [])))
          (item_height item) (room rest) u refl low high first (room-not_negative rest others) all left;
      left = sum-rest (item_height item) (room rest) first all;
      heights = others;
    }

-- the same, of what the code has
pub next-step : (u : Used) (items : List FlowItem) (i : ℕ) (offsets : List ℤ) (contents : Contents) (item : FlowItem)
    (offset : ℤ) (offsets' : List ℤ) (contents' : Contents)
    → i < length items → item ≡ get_or items i item → offset ≡ next_offset u contents item → offsets' ≡ offsets ++ offset ∷ []
    → contents' ≡ contents_after u contents item offset
    → GoesThrough u items i offsets contents → GoesThrough u items (i + 1) offsets' contents'
next-step u items i offsets contents item offset offsets' contents' h e is found kept g =
    let all-found : offsets ++ next_offset u contents item ∷ [] ≡ offsets' = ap (λ n. offsets ++ n ∷ []) (sym is) ∙ sym found in
    let all-kept : contents_after u contents item (next_offset u contents item) ≡ contents' =
    ap (λ n. contents_after u contents item n) (sym is) ∙ sym kept in
    subst (λ (c : Contents). GoesThrough u items (i + 1) offsets' c) all-kept
    (subst (λ (os : List ℤ). GoesThrough u items (i + 1) os (contents_after u contents item (next_offset u contents item))) all-found
    (goes-step u items i offsets contents item h e g))
