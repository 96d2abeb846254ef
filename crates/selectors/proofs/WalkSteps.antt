-- The steps of a walk to the left.
use Rattle.std.proofs.Common.{◌≡◌, ◌∙◌, ◌++◌, ◌∷◌, ◌||◌, ◌<◌, ◌≤◌, ◌-◌, ◌+◌, Bool, IsSome, None, Some, [], ap, arith, false, inl, inr, length, length-append, refl, subst, sym, true, ℕ}
use Rattle.std.proofs.lemmas.Bool.{false≢true}
use Rattle.std.specs.List.{list_any}
use Rattle.std.specs.Prelude.{option_to_list}
use Rattle.page_laws.proofs.Options.{true-or, true-or-left}
use Rattle.page_model.specs.Document.{AreDistinct, Node, first, ids, name_at, parent_of}
use Rattle.selectors.proofs.AncestorsOf.{ancestors-orphan, ancestors-parent, parent-element}
use Rattle.selectors.proofs.AnyOf.{any-last, any-one}
use Rattle.selectors.proofs.Leftward.{above-child, above-descendant, above-sibling, any-above, is_sibling, left-next, nearest-before, none-before, row-sibling, row-upward}
use Rattle.selectors.proofs.Rows.{row-ancestors}
use Rattle.selectors.proofs.Utf8.{same-bool}
use Rattle.selectors.specs.inner.Siblings.{counted_beside}
use Rattle.selectors.specs.inner.Walks.{IsInRow, IsOpen, Leads, LeadsFrom, Reaches, WalksBefore, WalksRow, ends_chain, ends_climb, ends_row, elements_before, goal_matches, matches_above, matches_in_row, matches_one, prefix_of}
use Rattle.selectors.specs.declared.matching.Goal.{Goal}
use Rattle.selectors.specs.declared.matching.Reached.{Reached}
use Rattle.selectors.specs.declared.matching.Reached.TheVariants as reached
use Rattle.selectors.specs.declared.selector.Selector.{Selector}
use Rattle.selectors.specs.declared.siblings.Side.TheVariants.{Before}
use Rattle.selectors_model.specs.Elements.{ancestors_of}
use Rattle.selectors_model.specs.Matching.{matches}
use Rattle.selectors_model.specs.declared.combinator.Combinator.{Combinator}
use Rattle.selectors_model.specs.declared.combinator.Combinator.TheVariants.{Descendant, Child, NextSibling, SubsequentSibling}

-- what is left before an element decides what it began with
pub record BeforeKept (root : Node) (s : Selector) (right : Goal) (links after : ℕ) : Type 0 where
  pub decides : matches_one root s (right.links - 1) (elements_before root right.at) ≡ matches_one root s links (elements_before root after)
  pub farther : matches_above root (prefix_of s (right.links - 1)) right.at ≡ true → matches_above root (prefix_of s links) after ≡ true
  pub element : IsSome (name_at after root)
  pub shorter : links ≤ right.links - 1
  pub higher : length (ancestors_of after root) ≤ length (ancestors_of right.at root)

-- what is left above an element does
pub record AboveKept (root : Node) (s : Selector) (right : Goal) (links below : ℕ) : Type 0 where
  pub decides : matches_one root s (right.links - 1) (ancestors_of right.at root) ≡ matches_one root s links (ancestors_of below root)
  pub shorter : links ≤ right.links - 1

abbrev goal_at : ℕ → ℕ → Goal
goal_at links at = record { links = links; at = at }

-- ---- one goal after another

pub leads-start : (root : Node) (s : Selector) (goal : Goal) → IsSome (name_at goal.at root) → LeadsFrom root s goal goal
leads-start root s goal own = record {
  decides = refl;
  farther = λ h. h;
  element = own;
  shorter = omega arith;
  higher = omega arith;
}

pub leads-on : (root : Node) (s : Selector) (target above : Bool) (links levels : ℕ) (goal to : Goal) → Leads root s target above links levels goal
    → Leads root s (goal_matches root s goal) (matches_above root (prefix_of s goal.links) goal.at) goal.links (length (ancestors_of goal.at root)) to
    → Leads root s target above links levels to
leads-on root s target above links levels goal to l m =
    let shorter = l.shorter in let shorter' = m.shorter in let higher = l.higher in let higher' = m.higher in
    record {
      decides = l.decides ∙ m.decides;
      farther = λ h. m.farther (l.farther h);
      element = m.element;
      shorter = omega (arith, shorter, shorter');
      higher = omega (arith, higher, higher');
    }

pub row-start : (root : Node) (s : Selector) (goal : Goal) → IsInRow root s goal goal
row-start root s goal = record { row = λ h. h; before = omega arith; ancestors = refl }

pub row-on : (root : Node) (s : Selector) (goal to next : Goal) → IsInRow root s goal to → IsInRow root s to next → IsInRow root s goal next
row-on root s goal to next r q =
    let b = r.before in let b' = q.before in
    record { row = λ h. q.row (r.row h); before = omega (arith, b, b'); ancestors = q.ancestors ∙ r.ancestors }

-- ---- the next sibling

-- where a selector matches one of those before an element, it matches in the row of the nearest
before-in-row : (root : Node) (s : Selector) (k i y : ℕ) → elements_before root i ≡ elements_before root y ++ y ∷ []
    → matches_one root s k (elements_before root i) ≡ matches_in_row root (prefix_of s k) y
before-in-row root s k i y e =
    ap (matches_one root s k) e ∙ any-last (matches root (prefix_of s k)) (elements_before root y) y

above-row : (root : Node) (s : Selector) (k i y : ℕ) → ancestors_of y root ≡ ancestors_of i root → matches_above root (prefix_of s k) i ≡ matches_above root (prefix_of s k) y
above-row root s k i y e = ap (list_any (matches_in_row root (prefix_of s k))) (sym e)

open-row : (root : Node) (s : Selector) (goal : Goal) (b : Combinator) → AreDistinct (ids root) → IsSome (name_at goal.at root) → is_sibling b ≡ true → IsOpen root s goal b
    → matches_in_row root (prefix_of s goal.links) goal.at ≡ true → matches_one root s (goal.links - 1) (elements_before root goal.at) ≡ true
open-row root s goal b d own sibling o h =
    row-sibling root (prefix_of s (goal.links - 1)) b o.compound goal.at d own sibling
    (subst (λ t. matches_in_row root t goal.at ≡ true) o.prefix h)

open-above : (root : Node) (s : Selector) (goal : Goal) (b : Combinator) → AreDistinct (ids root) → is_sibling b ≡ true → IsOpen root s goal b
    → matches_above root (prefix_of s goal.links) goal.at ≡ true → matches_above root (prefix_of s (goal.links - 1)) goal.at ≡ true
open-above root s goal b d sibling o h =
    above-sibling root (prefix_of s (goal.links - 1)) b o.compound goal.at d sibling
    (subst (λ t. matches_above root t goal.at ≡ true) o.prefix h)

pub next-leads : (root : Node) (s : Selector) (goal : Goal) (y : ℕ) → AreDistinct (ids root) → IsSome (name_at goal.at root) → IsOpen root s goal NextSibling
    → first (counted_beside Before None goal.at root) ≡ Some y → LeadsFrom root s goal (goal_at (goal.links - 1) y)
next-leads root s goal y d own o e =
    let n = nearest-before goal.at y root d own e in
    let same : ancestors_of y root ≡ ancestors_of goal.at root = row-ancestors goal.at y root d n.row in
    let levels : length (ancestors_of y root) ≡ length (ancestors_of goal.at root) = ap length same in
    record {
      decides = o.left
          ∙ (ap (matches_one root s (goal.links - 1)) (left-next goal.at root d own ∙ ap option_to_list e)
          ∙ any-one (matches root (prefix_of s (goal.links - 1))) y);
      farther = λ h. sym (above-row root s (goal.links - 1) goal.at y same) ∙ open-above root s goal NextSibling d refl o h;
      element = n.element;
      shorter = omega arith;
      higher = omega (arith, levels);
    }

pub next-row : (root : Node) (s : Selector) (goal : Goal) (y : ℕ) → AreDistinct (ids root) → IsSome (name_at goal.at root) → IsOpen root s goal NextSibling
    → first (counted_beside Before None goal.at root) ≡ Some y → IsInRow root s goal (goal_at (goal.links - 1) y)
next-row root s goal y d own o e =
    let n = nearest-before goal.at y root d own e in
    let long : length (elements_before root goal.at) ≡ length (elements_before root y) + 1 = ap length n.before ∙ length-append (elements_before root y) (y ∷ []) in
    record {
      row = λ h. sym (before-in-row root s (goal.links - 1) goal.at y n.before) ∙ open-row root s goal NextSibling d own refl o h;
      before = omega (arith, long);
      ancestors = row-ancestors goal.at y root d n.row;
    }

pub next-none : (root : Node) (s : Selector) (goal : Goal) → AreDistinct (ids root) → IsSome (name_at goal.at root) → IsOpen root s goal NextSibling
    → first (counted_beside Before None goal.at root) ≡ None → goal_matches root s goal ≡ false
next-none root s goal d own o e =
    o.left ∙ ap (matches_one root s (goal.links - 1)) (left-next goal.at root d own ∙ ap option_to_list e)

-- ---- the parent

pub child-leads : (root : Node) (s : Selector) (goal : Goal) (p : ℕ) → AreDistinct (ids root) → IsOpen root s goal Child
    → parent_of goal.at root ≡ Some p → LeadsFrom root s goal (goal_at (goal.links - 1) p)
child-leads root s goal p d o up =
    let levels : length (ancestors_of goal.at root) ≡ length (ancestors_of p root) + 1 =
    ap length (ancestors-parent goal.at p root d up) ∙ length-append (ancestors_of p root) (p ∷ []) in
    record {
      decides = o.left ∙ (ap (λ q. matches_one root s (goal.links - 1) (option_to_list q)) up ∙ any-one (matches root (prefix_of s (goal.links - 1))) p);
      farther = λ h. above-child root (prefix_of s (goal.links - 1)) o.compound goal.at p d up (subst (λ t. matches_above root t goal.at ≡ true) o.prefix h);
      element = parent-element goal.at p root d up;
      shorter = omega arith;
      higher = omega (arith, levels);
    }

pub child-none : (root : Node) (s : Selector) (goal : Goal) → IsOpen root s goal Child → parent_of goal.at root ≡ None → goal_matches root s goal ≡ false
child-none root s goal o up = o.left ∙ ap (λ q. matches_one root s (goal.links - 1) (option_to_list q)) up

-- ---- what a walk found out, seen from a goal before

pub reaches-on : (root : Node) (s : Selector) (ends : Combinator → Bool) (target target' above above' : Bool) (links links' levels levels' : ℕ) (r : Reached)
    → target ≡ target' → (above ≡ true → above' ≡ true) → links' ≤ links → levels' ≤ levels
    → Reaches root s ends target' above' links' levels' r → Reaches root s ends target above links levels r
reaches-on root s ends target target' above above' links links' levels levels' reached.Matches e f l v h = e ∙ h
reaches-on root s ends target target' above above' links links' levels levels' reached.Fails e f l v h = e ∙ h
reaches-on root s ends target target' above above' links links' levels levels' (reached.Open to b) e f l v h =
    let shorter = h.0.shorter in let higher = h.0.higher in (
      record {
        decides = e ∙ h.0.decides;
        farther = λ t. h.0.farther (f t);
        element = h.0.element;
        shorter = omega (arith, shorter, l);
        higher = omega (arith, higher, v);
      },
      h.1,
      h.2,
    )

-- what the elements before an open goal say of the walk that came to it
pub row-from-before : (root : Node) (s : Selector) (goal to : Goal) (r : Reached) → AreDistinct (ids root) → LeadsFrom root s goal to → IsOpen root s to SubsequentSibling
    → WalksBefore root s to r → WalksRow root s goal r
row-from-before root s goal to r d l o h =
    let shorter = l.shorter in let higher = l.higher in
    reaches-on root s ends_row (goal_matches root s goal) (matches_one root s (to.links - 1) (elements_before root to.at))
    (matches_above root (prefix_of s goal.links) goal.at) (matches_above root (prefix_of s (to.links - 1)) to.at)
    goal.links (to.links - 1) (length (ancestors_of goal.at root)) (length (ancestors_of to.at root)) r
    (l.decides ∙ o.left) (λ t. open-above root s to SubsequentSibling d refl o (l.farther t)) (omega (arith, shorter)) higher h

-- ---- siblings before

pub before-none : (root : Node) (s : Selector) (right : Goal) (links after : ℕ) → AreDistinct (ids root) → BeforeKept root s right links after
    → first (counted_beside Before None after root) ≡ None → matches_one root s (right.links - 1) (elements_before root right.at) ≡ false
before-none root s right links after d k e = k.decides ∙ ap (matches_one root s links) (none-before after root d k.element e)

pub before-fails : (root : Node) (s : Selector) (right : Goal) (links after y : ℕ) → AreDistinct (ids root) → BeforeKept root s right links after
    → first (counted_beside Before None after root) ≡ Some y → goal_matches root s (goal_at links y) ≡ false → BeforeKept root s right links y
before-fails root s right links after y d k e fails =
    let n = nearest-before after y root d k.element e in
    let same : ancestors_of y root ≡ ancestors_of after root = row-ancestors after y root d n.row in
    let levels : length (ancestors_of y root) ≡ length (ancestors_of after root) = ap length same in
    let higher = k.higher in
    record {
      decides = k.decides
          ∙ (before-in-row root s links after y n.before
          ∙ ap (λ b. b || matches_one root s links (elements_before root y)) fails);
      farther = λ h. sym (above-row root s links after y same) ∙ k.farther h;
      element = n.element;
      shorter = k.shorter;
      higher = omega (arith, levels, higher);
    }

pub before-less : (root : Node) (after y : ℕ) → AreDistinct (ids root) → IsSome (name_at after root)
    → first (counted_beside Before None after root) ≡ Some y → length (elements_before root y) < length (elements_before root after)
before-less root after y d own e =
    let n = nearest-before after y root d own e in
    let long : length (elements_before root after) ≡ length (elements_before root y) + 1 = ap length n.before ∙ length-append (elements_before root y) (y ∷ []) in
    omega (arith, long)

-- the nearest matches as far as an open goal, which decides
nearest-decides : (root : Node) (s : Selector) (links after y : ℕ) (to : Goal) (rest : Bool) → elements_before root after ≡ elements_before root y ++ y ∷ []
    → goal_matches root s (goal_at links y) ≡ rest → (matches_in_row root (prefix_of s links) y ≡ true → rest ≡ true)
    → matches_one root s links (elements_before root after) ≡ rest
nearest-decides root s links after y to rest before same row =
    before-in-row root s links after y before
    ∙ same-bool (matches_in_row root (prefix_of s links) y) rest row
    (λ t. true-or-left (goal_matches root s (goal_at links y)) (matches_one root s links (elements_before root y)) (same ∙ t))

pub before-open : (root : Node) (s : Selector) (right : Goal) (links after y : ℕ) (to : Goal) → AreDistinct (ids root) → BeforeKept root s right links after
    → first (counted_beside Before None after root) ≡ Some y → LeadsFrom root s (goal_at links y) to → IsInRow root s (goal_at links y) to
    → IsOpen root s to SubsequentSibling → BeforeKept root s right (to.links - 1) to.at
before-open root s right links after y to d k e l r o =
    let n = nearest-before after y root d k.element e in
    let same : ancestors_of y root ≡ ancestors_of after root = row-ancestors after y root d n.row in
    let levels : length (ancestors_of y root) ≡ length (ancestors_of after root) = ap length same in
    let higher = k.higher in let higher' = l.higher in let shorter = k.shorter in let shorter' = l.shorter in
    record {
      decides = k.decides
          ∙ nearest-decides root s links after y to (matches_one root s (to.links - 1) (elements_before root to.at)) n.before
          (l.decides ∙ o.left) (λ h. open-row root s to SubsequentSibling d l.element refl o (r.row h));
      farther = λ h. open-above root s to SubsequentSibling d refl o (l.farther (sym (above-row root s links after y same) ∙ k.farther h));
      element = l.element;
      shorter = omega (arith, shorter, shorter');
      higher = omega (arith, levels, higher, higher');
    }

-- and there the walk leaves the row
pub before-reached : (root : Node) (s : Selector) (right : Goal) (links after y : ℕ) (to : Goal) (b : Combinator) → AreDistinct (ids root) → BeforeKept root s right links after
    → first (counted_beside Before None after root) ≡ Some y → LeadsFrom root s (goal_at links y) to → IsInRow root s (goal_at links y) to
    → IsOpen root s to b → is_sibling b ≡ false → ends_row b ≡ true → WalksBefore root s right (reached.Open to b)
before-reached root s right links after y to b d k e l r o upward ends =
    let n = nearest-before after y root d k.element e in
    let same : ancestors_of y root ≡ ancestors_of after root = row-ancestors after y root d n.row in
    let levels : length (ancestors_of y root) ≡ length (ancestors_of after root) = ap length same in
    let higher = k.higher in let higher' = l.higher in let shorter = k.shorter in let shorter' = l.shorter in (
      record {
        decides = k.decides
            ∙ nearest-decides root s links after y to (goal_matches root s to) n.before l.decides
            (λ h. o.left ∙ row-upward root (prefix_of s (to.links - 1)) b o.compound to.at d l.element upward
            (subst (λ t. matches_in_row root t to.at ≡ true) o.prefix (r.row h)));
        farther = λ h. l.farther (sym (above-row root s links after y same) ∙ k.farther h);
        element = l.element;
        shorter = omega (arith, shorter, shorter');
        higher = omega (arith, levels, higher, higher');
      },
      o,
      ends,
    )

pub before-matches : (root : Node) (s : Selector) (right : Goal) (links after y : ℕ) → AreDistinct (ids root) → BeforeKept root s right links after
    → first (counted_beside Before None after root) ≡ Some y → goal_matches root s (goal_at links y) ≡ true
    → matches_one root s (right.links - 1) (elements_before root right.at) ≡ true
before-matches root s right links after y d k e h =
    let n = nearest-before after y root d k.element e in
    k.decides
    ∙ (before-in-row root s links after y n.before
    ∙ true-or-left (goal_matches root s (goal_at links y)) (matches_one root s links (elements_before root y)) h)

-- ---- ancestors

above-last : (root : Node) (s : Selector) (links below p : ℕ) → AreDistinct (ids root) → parent_of below root ≡ Some p
    → matches_one root s links (ancestors_of below root) ≡ goal_matches root s (goal_at links p) || matches_one root s links (ancestors_of p root)
above-last root s links below p d up =
    ap (matches_one root s links) (ancestors-parent below p root d up) ∙ any-last (matches root (prefix_of s links)) (ancestors_of p root) p

pub above-none : (root : Node) (s : Selector) (right : Goal) (links below : ℕ) → AreDistinct (ids root) → AboveKept root s right links below
    → parent_of below root ≡ None → matches_one root s (right.links - 1) (ancestors_of right.at root) ≡ false
above-none root s right links below d k up = k.decides ∙ ap (matches_one root s links) (ancestors-orphan below root d up)

pub above-matches : (root : Node) (s : Selector) (right : Goal) (links below p : ℕ) → AreDistinct (ids root) → AboveKept root s right links below
    → parent_of below root ≡ Some p → goal_matches root s (goal_at links p) ≡ true → matches_one root s (right.links - 1) (ancestors_of right.at root) ≡ true
above-matches root s right links below p d k up h =
    k.decides ∙ (above-last root s links below p d up ∙ true-or-left (goal_matches root s (goal_at links p)) (matches_one root s links (ancestors_of p root)) h)

pub above-fails : (root : Node) (s : Selector) (right : Goal) (links below p : ℕ) → AreDistinct (ids root) → AboveKept root s right links below
    → parent_of below root ≡ Some p → goal_matches root s (goal_at links p) ≡ false → AboveKept root s right links p
above-fails root s right links below p d k up h = record {
  decides = k.decides ∙ (above-last root s links below p d up ∙ ap (λ b. b || matches_one root s links (ancestors_of p root)) h);
  shorter = k.shorter;
}

pub above-less : (root : Node) (below p : ℕ) → AreDistinct (ids root) → parent_of below root ≡ Some p → length (ancestors_of p root) < length (ancestors_of below root)
above-less root below p d up =
    let long : length (ancestors_of below root) ≡ length (ancestors_of p root) + 1 = ap length (ancestors-parent below p root d up) ∙ length-append (ancestors_of p root) (p ∷ []) in
    omega (arith, long)

pub above-open : (root : Node) (s : Selector) (right : Goal) (links below p : ℕ) (to : Goal) → AreDistinct (ids root) → AboveKept root s right links below
    → parent_of below root ≡ Some p → LeadsFrom root s (goal_at links p) to → IsOpen root s to Descendant → AboveKept root s right (to.links - 1) to.at
above-open root s right links below p to d k up l o =
    let shorter = k.shorter in let shorter' = l.shorter in
    let here : goal_matches root s (goal_at links p) ≡ matches_one root s (to.links - 1) (ancestors_of to.at root) = l.decides ∙ o.left in
    record {
      decides = k.decides
          ∙ (above-last root s links below p d up
          ∙ same-bool (goal_matches root s (goal_at links p) || matches_one root s links (ancestors_of p root)) (matches_one root s (to.links - 1) (ancestors_of to.at root))
          (λ h. elim (true-or (goal_matches root s (goal_at links p)) (matches_one root s links (ancestors_of p root)) h) [
            | inl t ↦ sym here ∙ t
            | inr t ↦ above-descendant root (prefix_of s (to.links - 1)) o.compound to.at d
                (subst (λ u. matches_above root u to.at ≡ true) o.prefix (l.farther (any-above root (prefix_of s links) p t)))
          ])
          (λ t. true-or-left (goal_matches root s (goal_at links p)) (matches_one root s links (ancestors_of p root)) (here ∙ t)));
      shorter = omega (arith, shorter, shorter');
    }

-- a walk among siblings and parents stops at white space alone
pub climb-descendant : (root : Node) (s : Selector) (goal : Goal) (b : Combinator) → IsOpen root s goal b → ends_climb b ≡ true → IsOpen root s goal Descendant
climb-descendant root s goal Descendant o e = o
climb-descendant root s goal Child o e = absurd (false≢true e)
climb-descendant root s goal NextSibling o e = absurd (false≢true e)
climb-descendant root s goal SubsequentSibling o e = absurd (false≢true e)

-- a combinator that leads out of a row is none between siblings
pub row-leaves : (b : Combinator) → ends_row b ≡ true → is_sibling b ≡ false
row-leaves Descendant e = refl
row-leaves Child e = refl
row-leaves NextSibling e = absurd (false≢true e)
row-leaves SubsequentSibling e = absurd (false≢true e)

-- one that stays in the row and ends a chain is `~`
pub row-stays : (root : Node) (s : Selector) (goal : Goal) (b : Combinator) → IsOpen root s goal b → ends_chain b ≡ true → ends_row b ≡ false → IsOpen root s goal SubsequentSibling
row-stays root s goal SubsequentSibling o e f = o
row-stays root s goal NextSibling o e f = absurd (false≢true e)
row-stays root s goal Child o e f = absurd (false≢true (sym f))
row-stays root s goal Descendant o e f = absurd (false≢true (sym f))
