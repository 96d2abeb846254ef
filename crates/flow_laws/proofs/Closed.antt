-- Edges that margins do not pass.
use Rattle.std.proofs.Common.{rules, arith, ◌∙◌, sym, ap, refl, inl, inr}
use Rattle.std.specs.Prelude.{◌≡◌, ◌⊎◌, ℤ, pos, ◌&&◌, not, if◌then◌else◌, List, [], ◌∷◌, is_none, Bool, true, false}
use Rattle.std.specs.List.{list_all}
use Rattle.std.proofs.lemmas.Bool.{cases_Bool}
use Rattle.std.proofs.lemmas.Bool.Decides.{Decides-int_eq}
use Rattle.flow_model.specs.declared.flow_item.FlowItem.{FlowItem}
use Rattle.flow_model.specs.declared.margins.Margins.{Margins}
use Rattle.flow_model.specs.declared.used.Used.{Used}
use Rattle.flow_model.specs.MarginSets.{alone, joined}
use Rattle.flow_model.specs.Collapsing.{bottom_set, bottom_set_of_solid, is_auto_or_zero, is_box_through, is_bottom_open, is_through, is_top_open, is_zero, lead, no_bottom_edge, no_top_edge, top_set, trail}

not-zero : (n : ℤ) → (n ≡ pos 0 → ⊥) → is_zero n ≡ false
not-zero n h = elim (cases_Bool (is_zero n)) [
  | inl t ↦ absurd (h ((Decides-int_eq n (pos 0)).0 t))
  | inr f ↦ f
]

and-false : (b c : Bool) → c ≡ false → b && c ≡ false
and-false true c h = h
and-false false c h = refl

front-false : (b c : Bool) → b ≡ false → b && c ≡ false
front-false b c h = ap (λ (x : Bool). x && c) h

not-true : (b : Bool) → b ≡ true → not b ≡ false
not-true b h = ap (λ (x : Bool). not x) h

-- ---- the top

closed-top : (u : Used) → (u.independent ≡ true) ⊎ ((u.bt ≡ pos 0 → ⊥) ⊎ (u.pt ≡ pos 0 → ⊥)) → is_top_open u ≡ false
closed-top u (inl i) = front-false (not u.independent) (no_top_edge u) (not-true u.independent i)
closed-top u (inr (inl b)) =
    and-false (not u.independent) (no_top_edge u) (front-false (is_zero u.bt) (is_zero u.pt) (not-zero u.bt b))
closed-top u (inr (inr p)) =
    and-false (not u.independent) (no_top_edge u) (and-false (is_zero u.bt) (is_zero u.pt) (not-zero u.pt p))

pub top-alone : (u : Used) (items : List FlowItem)
    → (u.independent ≡ true) ⊎ ((u.bt ≡ pos 0 → ⊥) ⊎ (u.pt ≡ pos 0 → ⊥)) → top_set u items ≡ alone u.mt
top-alone u items h =
    ap (λ (b : Bool). if b then joined (alone u.mt ∷ lead items ∷ []) else alone u.mt) (closed-top u h)

-- ---- the bottom

no-bottom : (u : Used) → (u.bb ≡ pos 0 → ⊥) ⊎ (u.pb ≡ pos 0 → ⊥) → no_bottom_edge u ≡ false
no-bottom u (inl b) = front-false (is_zero u.bb) (is_zero u.pb) (not-zero u.bb b)
no-bottom u (inr p) = and-false (is_zero u.bb) (is_zero u.pb) (not-zero u.pb p)

edge-open : (u : Used) → no_bottom_edge u ≡ false → is_bottom_open u ≡ false
edge-open u h =
    let after = is_none u.h && (is_zero u.min_h && not u.size_contained) in
    and-false (not u.independent) (no_bottom_edge u && after) (front-false (no_bottom_edge u) after h)

closed-bottom : (u : Used) → (u.independent ≡ true) ⊎ ((u.bb ≡ pos 0 → ⊥) ⊎ (u.pb ≡ pos 0 → ⊥)) → is_bottom_open u ≡ false
closed-bottom u (inl i) =
    front-false (not u.independent) (no_bottom_edge u && (is_none u.h && (is_zero u.min_h && not u.size_contained)))
    (not-true u.independent i)
closed-bottom u (inr h) = edge-open u (no-bottom u h)

-- ---- apart

-- what is asked after the edges
abbrev rest_of_through : Used → List FlowItem → Bool
rest_of_through u items = is_zero u.min_h && (is_auto_or_zero u.h && list_all is_through items)

apart-independent : (u : Used) (items : List FlowItem) → u.independent ≡ true → is_box_through u items ≡ false
apart-independent u items i =
    front-false (not u.independent) (no_top_edge u && (no_bottom_edge u && rest_of_through u items)) (not-true u.independent i)

apart-top : (u : Used) (items : List FlowItem) → no_top_edge u ≡ false → is_box_through u items ≡ false
apart-top u items h =
    let after = no_bottom_edge u && rest_of_through u items in
    and-false (not u.independent) (no_top_edge u && after) (front-false (no_top_edge u) after h)

apart-bottom : (u : Used) (items : List FlowItem) → no_bottom_edge u ≡ false → is_box_through u items ≡ false
apart-bottom u items h =
    let after = no_bottom_edge u && rest_of_through u items in
    and-false (not u.independent) (no_top_edge u && after)
    (and-false (no_top_edge u) after (front-false (no_bottom_edge u) (rest_of_through u items) h))

apart-least : (u : Used) (items : List FlowItem) → is_zero u.min_h ≡ false → is_box_through u items ≡ false
apart-least u items h =
    let after = no_bottom_edge u && rest_of_through u items in
    and-false (not u.independent) (no_top_edge u && after)
    (and-false (no_top_edge u) after (and-false (no_bottom_edge u) (rest_of_through u items)
    (front-false (is_zero u.min_h) (is_auto_or_zero u.h && list_all is_through items) h)))

pub apart : (u : Used) (items : List FlowItem)
    → (u.independent ≡ true) ⊎ ((u.bt ≡ pos 0 → ⊥) ⊎ ((u.pt ≡ pos 0 → ⊥)
    ⊎ ((u.bb ≡ pos 0 → ⊥) ⊎ ((u.pb ≡ pos 0 → ⊥) ⊎ (u.min_h ≡ pos 0 → ⊥)))))
    → is_box_through u items ≡ false
apart u items (inl i) = apart-independent u items i
apart u items (inr (inl b)) = apart-top u items (front-false (is_zero u.bt) (is_zero u.pt) (not-zero u.bt b))
apart u items (inr (inr (inl p))) = apart-top u items (and-false (is_zero u.bt) (is_zero u.pt) (not-zero u.pt p))
apart u items (inr (inr (inr (inl b)))) = apart-bottom u items (no-bottom u (inl b))
apart u items (inr (inr (inr (inr (inl p))))) = apart-bottom u items (no-bottom u (inr p))
apart u items (inr (inr (inr (inr (inr m))))) = apart-least u items (not-zero u.min_h m)

apart-closed : (u : Used) (items : List FlowItem) → (u.independent ≡ true) ⊎ ((u.bb ≡ pos 0 → ⊥) ⊎ (u.pb ≡ pos 0 → ⊥))
    → is_box_through u items ≡ false
apart-closed u items (inl i) = apart-independent u items i
apart-closed u items (inr h) = apart-bottom u items (no-bottom u h)

pub bottom-alone : (u : Used) (items : List FlowItem)
    → (u.independent ≡ true) ⊎ ((u.bb ≡ pos 0 → ⊥) ⊎ (u.pb ≡ pos 0 → ⊥)) → bottom_set u items ≡ alone u.mb
bottom-alone u items h =
    let through = joined (top_set u items ∷ alone u.mb ∷ []) in
    let out = joined (alone u.mb ∷ trail u items ∷ []) in
    ap (λ (b : Bool). if b then through else bottom_set_of_solid u items) (apart-closed u items h)
    ∙ ap (λ (b : Bool). if b then out else alone u.mb) (closed-bottom u h)
