-- The height of the tree that slots are.
use Rattle.std.proofs.Common.{List, None, Option, Some, ap, arith, map, max, min, option_and_then, option_map, refl, slice_get, suc, sym, zero, ℕ, ◌+◌, ◌-◌, ◌^◌, ◌∙◌, ◌≡◌, ◌≤◌}
use Rattle.dom_arena.specs.Built.{after_in}
use Rattle.dom_arena.specs.Cells.{Place}
use Rattle.dom_arena.specs.Heights.{first_below, first_of_element}
use Rattle.dom_arena.specs.Reading.{below, node_of, siblings}
use Rattle.dom_arena.specs.Slots.{body_in, cells_of, own_in, place_at, target}
use Rattle.page_model.specs.Document.{Node, before, first, height, heights, nodes_of}
use Rattle.dom_arena.specs.declared.slot.Content.{Content}
use Rattle.dom_arena.specs.declared.slot.Content.TheVariants.{Chars, Element, Free}
use Rattle.dom_arena.specs.declared.slot.Slot.{Slot}
use Rattle.page_model.specs.declared.limits.TheConstants.{MAX_NODES}

-- the trees from the slot `x` on
pub heights-next : (slots : List Slot) (many levels k x : ℕ)
    → heights (nodes_of (map (below (cells_of slots) many levels) (siblings (place_at slots) (suc k) (Some x))))
    ≡ max (height (below (cells_of slots) many levels x)) (heights (nodes_of (map (below (cells_of slots) many levels) (siblings (place_at slots) k (after_in (place_at slots x))))))
heights-next slots many levels k x =
    ap (λ o. max (height (below (cells_of slots) many levels x)) (heights (nodes_of (map (below (cells_of slots) many levels) (siblings (place_at slots) k o))))) (by-place (place_at slots x))
  where
    by-place : (o : Option Place) → option_and_then (λ (p : Place). p.after) o ≡ after_in o
    by-place None = refl
    by-place (Some p) = refl

pub heights-end : (slots : List Slot) (many levels k : ℕ) → heights (nodes_of (map (below (cells_of slots) many levels) (siblings (place_at slots) k None))) ≡ 0
heights-end slots many levels zero = refl
heights-end slots many levels (suc k) = refl

pub height-none : (slots : List Slot) (many x : ℕ) → height (below (cells_of slots) many 0 x) ≡ 1
unfolding below
height-none slots many x = refl

nothing-below : (many : ℕ) (f : ℕ → Node) (place : ℕ → Option Place) → suc (heights (nodes_of (map f (siblings place many None)))) ≡ 1
nothing-below zero f place = refl
nothing-below (suc k) f place = refl

pub height-step : (slots : List Slot) (many levels x : ℕ) → height (below (cells_of slots) many (suc levels) x)
    ≡ suc (heights (nodes_of (map (below (cells_of slots) many levels) (siblings (place_at slots) many (first_below (slice_get slots x))))))
unfolding below
height-step slots many levels x = by-slot (slice_get slots x)
  where
    child : ℕ → Node
    child = below (cells_of slots) many levels

    by-content : (c : Content) (s : Slot)
        → height (node_of (cells_of slots) many child x (option_map (λ own. record { own = own; first = target s.first; last = target s.last; count = s.children; size = s.size }) (own_in x c)))
        ≡ suc (heights (nodes_of (map child (siblings (place_at slots) many (first_of_element c (target s.first))))))
    by-content (Element name attributes) s = refl
    by-content (Chars cs) s = sym (nothing-below many child (place_at slots))
    by-content (Free next) s = sym (nothing-below many child (place_at slots))

    by-slot : (o : Option Slot) → height (node_of (cells_of slots) many child x (option_and_then (body_in x) o)) ≡ suc (heights (nodes_of (map child (siblings (place_at slots) many (first_below o)))))
    by-slot None = sym (nothing-below many child (place_at slots))
    by-slot (Some s) = by-content s.content s

-- ---- as the loop over siblings wants it

-- the height of the highest of the trees from here on
abbrev pub deepest_from : List Slot → ℕ → ℕ → Option ℕ → ℕ
deepest_from slots levels k o = heights (nodes_of (map (below (cells_of slots) MAX_NODES levels) (siblings (place_at slots) k o)))

pub deepest-more : (slots : List Slot) (levels k m x d h all : ℕ) (at next : Option ℕ) → at ≡ Some x → m ≡ suc k → h ≡ min (height (below (cells_of slots) MAX_NODES levels x)) (2 ^ 32 - 1)
    → next ≡ after_in (place_at slots x) → min (max d (deepest_from slots levels m at)) (2 ^ 32 - 1) ≡ min all (2 ^ 32 - 1)
    → min (max (max d h) (deepest_from slots levels k next)) (2 ^ 32 - 1) ≡ min all (2 ^ 32 - 1)
deepest-more slots levels k m x d h all at next here count e n before =
    let one : deepest_from slots levels m at ≡ deepest_from slots levels (suc k) (Some x) = λ j. deepest_from slots levels (count j) (here j) in
    let step : deepest_from slots levels (suc k) (Some x) ≡ max (height (below (cells_of slots) MAX_NODES levels x)) (deepest_from slots levels k (after_in (place_at slots x))) = heights-next slots MAX_NODES levels k x in
    let rest : deepest_from slots levels k next ≡ deepest_from slots levels k (after_in (place_at slots x)) = ap (deepest_from slots levels k) n in
    omega (arith, one, step, rest, e, before)

pub deepest-stops : (slots : List Slot) (levels k d all : ℕ) (at : Option ℕ) → at ≡ None → d ≤ 2 ^ 32 - 1 → min (max d (deepest_from slots levels k at)) (2 ^ 32 - 1) ≡ min all (2 ^ 32 - 1) → d ≡ min all (2 ^ 32 - 1)
deepest-stops slots levels k d all at none fits before =
    let rest : deepest_from slots levels k at ≡ 0 = ap (deepest_from slots levels k) none ∙ heights-end slots MAX_NODES levels k in
    omega (arith, rest, fits, before)

pub deepest-all : (slots : List Slot) (levels k d all : ℕ) (at : Option ℕ) → k ≡ 0 → d ≤ 2 ^ 32 - 1 → min (max d (deepest_from slots levels k at)) (2 ^ 32 - 1) ≡ min all (2 ^ 32 - 1) → d ≡ min all (2 ^ 32 - 1)
deepest-all slots levels k d all at none fits before =
    let rest : deepest_from slots levels k at ≡ 0 = ap (λ (m : ℕ). deepest_from slots levels m at) none in
    omega (arith, rest, fits, before)

pub height-whole : (slots : List Slot) (levels m x below_it : ℕ) (first : Option ℕ) → m ≡ suc levels → first ≡ first_below (slice_get slots x) → below_it ≡ min (deepest_from slots levels MAX_NODES first) (2 ^ 32 - 1)
    → min (below_it + 1) (2 ^ 32 - 1) ≡ min (height (below (cells_of slots) MAX_NODES m x)) (2 ^ 32 - 1)
height-whole slots levels m x below_it first count e h =
    let one : height (below (cells_of slots) MAX_NODES m x) ≡ height (below (cells_of slots) MAX_NODES (suc levels) x) = ap (λ (k : ℕ). height (below (cells_of slots) MAX_NODES k x)) count in
    let step : height (below (cells_of slots) MAX_NODES (suc levels) x) ≡ suc (deepest_from slots levels MAX_NODES (first_below (slice_get slots x))) = height-step slots MAX_NODES levels x in
    let all : deepest_from slots levels MAX_NODES first ≡ deepest_from slots levels MAX_NODES (first_below (slice_get slots x)) = ap (deepest_from slots levels MAX_NODES) e in
    omega (arith, one, step, all, h)
