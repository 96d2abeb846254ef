-- Items stand below each other.
use Rattle.std.proofs.Common.{rules, arith, ◌∙◌, sym, ap, refl, subst}
use Rattle.std.specs.Prelude.{◌≡◌, ◌⊎◌, ℤ, pos, ◌≤ℤ◌, ◌+ℤ◌, if◌then◌else◌, List, [], ◌∷◌, map, Option, Some, None, Bool, true, false}
use Rattle.std.specs.Int.{int_min, int_max}
use Rattle.std.specs.List.{All, fold}
use Rattle.std.proofs.lemmas.Bool.{cases_Bool}
use Rattle.std.proofs.lemmas.Int.{ints, clamps}
use Rattle.units64.specs.Limits.{clamped_units}
use Rattle.flow_model.specs.declared.flow_item.FlowItem.{FlowItem}
use Rattle.flow_model.specs.declared.margins.Margins.{Margins}
use Rattle.flow_model.specs.declared.used.Used.{Used}
use Rattle.flow_model.specs.MarginSets.{joined, collapsed}
use Rattle.flow_model.specs.Collapsing.{is_through, item_height, top_of, bottom_of, sets_above, is_top_open}
use Rattle.flow_model.specs.Offsets.{offset_at, solid_edge, item_offset}
use Rattle.flow_laws.specs.Plain.{IsNotNegative, IsPlain}
use Rattle.flow_laws.proofs.SeenSets.{fold_max, fold_max-not_negative, max-of_zero, zero_not_positive}
use Rattle.std.proofs.lemmas.List.Elements.{All-head, All-tail}

-- ---- margins that are not negative

max-low : (a x : ℤ) → pos 0 ≤ℤ x → a ≤ℤ int_max x a
max-low a x h = omega (arith, ints, clamps)

-- a larger set collapses to a margin that is at least as wide
collapsed-rises : (p q : ℤ) → p ≤ℤ q → clamped_units (p +ℤ pos 0) ≤ℤ clamped_units (q +ℤ pos 0)
collapsed-rises p q h = omega (arith, ints, clamps)

collapsed-not_negative : (p : ℤ) → pos 0 ≤ℤ p → pos 0 ≤ℤ clamped_units (p +ℤ pos 0)
collapsed-not_negative p h = omega (arith, ints, clamps)

min-none : (x : ℤ) → x ≡ pos 0 → int_min (pos 0) x ≡ pos 0
min-none x h = omega (arith, ints, clamps)

-- the most negative of these is 0
abbrev HasNoNegative : List Margins → Type 0
HasNoNegative sets = fold int_min (pos 0) (map (λ (m : Margins). m.negative) sets) ≡ pos 0

no-negative-cons : (m : Margins) (sets : List Margins) → m.negative ≡ pos 0 → HasNoNegative sets → HasNoNegative (m ∷ sets)
no-negative-cons m sets e h =
    ap (λ n. fold int_min n (map (λ (n : Margins). n.negative) sets)) (min-none m.negative e) ∙ h

no-negative-either : (b : Bool) (m : Margins) (sets : List Margins) → m.negative ≡ pos 0 → HasNoNegative sets
    → HasNoNegative (if b then m ∷ sets else m ∷ [])
no-negative-either true m sets e h = no-negative-cons m sets e h
no-negative-either false m sets e h = no-negative-cons m [] e refl

no-negative-above : (above : List FlowItem) → All IsPlain above → HasNoNegative (sets_above above)
no-negative-above [] h = refl
no-negative-above (item ∷ above) h =
    let first = All-head IsPlain item above h in
    let others = no-negative-above above (All-tail IsPlain item above h) in
    no-negative-either (is_through item) (bottom_of item) (sets_above above) first.bottom.negative others

-- ---- the positive side

abbrev most_positive : List Margins → ℤ
most_positive sets = fold int_max (pos 0) (map (λ (m : Margins). m.positive) sets)

positive-cons : (m : Margins) (sets : List Margins) → most_positive (m ∷ sets) ≡ int_max (int_max (pos 0) m.positive) (most_positive sets)
positive-cons m sets = fold_max (int_max (pos 0) m.positive) (map (λ (m : Margins). m.positive) sets) (max-of_zero m.positive)

positive-not_negative : (sets : List Margins) → pos 0 ≤ℤ most_positive sets
positive-not_negative sets = fold_max-not_negative (pos 0) (map (λ (m : Margins). m.positive) sets) zero_not_positive

rises : (t b n r : ℤ) → t ≤ℤ b → int_max (int_max (pos 0) t) r ≤ℤ int_max (int_max (pos 0) n) (int_max (int_max (pos 0) b) r)
rises t b n r h = omega (arith, ints, clamps)

-- with more sets the margin is at least as wide
margin-rises : (t b n : Margins) (sets : List Margins) → t.positive ≤ℤ b.positive → t.negative ≡ pos 0 → b.negative ≡ pos 0 → n.negative ≡ pos 0
    → HasNoNegative sets → collapsed (joined (t ∷ sets)) ≤ℤ collapsed (joined (n ∷ b ∷ sets))
margin-rises t b n sets more te be ne h =
    let none = no-negative-cons t sets te h in
    let none_below = no-negative-cons n (b ∷ sets) ne (no-negative-cons b sets be h) in
    let left = positive-cons t sets in
    let right = positive-cons n (b ∷ sets) ∙ ap (λ x. int_max (int_max (pos 0) n.positive) x) (positive-cons b sets) in
    let wider : most_positive (t ∷ sets) ≤ℤ most_positive (n ∷ b ∷ sets) =
    subst (λ (x : ℤ). x ≤ℤ most_positive (n ∷ b ∷ sets)) (sym left)
    (subst (λ (y : ℤ). int_max (int_max (pos 0) t.positive) (most_positive sets) ≤ℤ y) (sym right)
    (rises t.positive b.positive n.positive (most_positive sets) more)) in
    subst (λ (x : ℤ). clamped_units (most_positive (t ∷ sets) +ℤ x) ≤ℤ collapsed (joined (n ∷ b ∷ sets))) (sym none)
    (subst (λ (y : ℤ). clamped_units (most_positive (t ∷ sets) +ℤ pos 0) ≤ℤ clamped_units (most_positive (n ∷ b ∷ sets) +ℤ y)) (sym none_below)
    (collapsed-rises (most_positive (t ∷ sets)) (most_positive (n ∷ b ∷ sets)) wider))

margin-not_negative : (sets : List Margins) → HasNoNegative sets → pos 0 ≤ℤ collapsed (joined sets)
margin-not_negative sets h =
    subst (λ (x : ℤ). pos 0 ≤ℤ clamped_units (most_positive sets +ℤ x)) (sym h)
    (collapsed-not_negative (most_positive sets) (positive-not_negative sets))

-- ---- offsets

offset-rises : (top_open : Bool) (u : Used) (edge : Option ℤ) (v w : ℤ) → is_top_open u ≡ top_open → v ≤ℤ w → offset_at u edge v ≤ℤ offset_at u edge w
offset-rises top_open u (Some e) v w is h = omega (arith, ints)
offset-rises true u None v w is h = rw is (omega (arith, ints))
offset-rises false u None v w is h = rw is h

sum-rises : (o h v : ℤ) → pos 0 ≤ℤ h → pos 0 ≤ℤ v → o ≤ℤ (o +ℤ h +ℤ v)
sum-rises o h v hh vv = omega (arith, ints)

-- after a solid item, and after one that margins pass through
below-either : (through : Bool) (u : Used) (above : List FlowItem) (item next : FlowItem) → is_through item ≡ through
    → All IsPlain above → IsPlain item → IsPlain next → item_offset u above item ≤ℤ item_offset u (item ∷ above) next
below-either true u above item next is h i n =
    rw is (offset-rises (is_top_open u) u (solid_edge u above) (collapsed (joined (top_of item ∷ sets_above above)))
    (collapsed (joined (top_of next ∷ bottom_of item ∷ sets_above above))) refl
    (margin-rises (top_of item) (bottom_of item) (top_of next) (sets_above above) (i.all is) i.top.negative i.bottom.negative n.top.negative
    (no-negative-above above h)))
below-either false u above item next is h i n =
    rw is (sum-rises (item_offset u above item) (item_height item) (collapsed (joined (top_of next ∷ bottom_of item ∷ []))) i.height
    (margin-not_negative (top_of next ∷ bottom_of item ∷ [])
    (no-negative-cons (top_of next) (bottom_of item ∷ []) n.top.negative (no-negative-cons (bottom_of item) [] i.bottom.negative refl))))

pub stand-below : (u : Used) (above : List FlowItem) (item next : FlowItem) → All IsPlain above → IsPlain item → IsPlain next
    → item_offset u above item ≤ℤ item_offset u (item ∷ above) next
stand-below u above item next h i n = below-either (is_through item) u above item next refl h i n
