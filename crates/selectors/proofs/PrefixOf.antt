-- A selector up to one combinator more.
use Rattle.std.proofs.Common.{◌≡◌, ◌∙◌, ◌++◌, ◌∷◌, ◌<◌, ◌≤◌, ◌-◌, ◌&&◌, [], ap, arith, false, fold, length, map, slice_index_or, suc, sym, take, true, ℕ}
use Rattle.std.proofs.lemmas.List.{length-map, map-append, take-map}
use Rattle.std.proofs.lemmas.List.Sums.{fold_push}
use Rattle.dom_arena.proofs.Lists.{take-next}
use Rattle.page_model.specs.Document.{Node}
use Rattle.selectors.specs.Views.{after_link, compound_view, link_view}
use Rattle.selectors.specs.inner.Walks.{IsOpen, goal_matches, links_of, matches_one, prefix_of}
use Rattle.selectors.specs.declared.matching.Goal.{Goal}
use Rattle.selectors.specs.declared.selector.Link.{Link}
use Rattle.selectors.specs.declared.selector.Selector.{Selector, out-Selector}
use Rattle.selectors_model.specs.Elements.{left_of}
use Rattle.selectors_model.specs.Matching.{compound_matches, matches}
use Rattle.selectors_model.specs.Selectors as model

prefix-more : (s : Selector) (k : ℕ) (link : Link) → k < length (out-Selector s).links → link ≡ slice_index_or (out-Selector s).links k link
    → prefix_of s (suc k) ≡ model.combined (prefix_of s k) (link_view link).0 (link_view link).1
prefix-more s k link w e =
    let links = (out-Selector s).links in
    let more : take (suc k) (links_of s) ≡ take k (links_of s) ++ link_view link ∷ [] =
    take-map link_view (suc k) links
    ∙ (ap (map link_view) (take-next links k link w e)
    ∙ (map-append link_view (take k links) (link ∷ [])
    ∙ ap (λ ls. ls ++ link_view link ∷ []) (sym (take-map link_view k links)))) in
    ap (fold after_link (model.compound (compound_view (out-Selector s).first))) more
    ∙ fold_push after_link (model.compound (compound_view (out-Selector s).first)) (take k (links_of s)) (link_view link)

-- the selector of a goal that has a combinator
goal-prefix : (s : Selector) (k : ℕ) (link : Link) → 0 < k → k ≤ length (links_of s) → link ≡ slice_index_or (out-Selector s).links (k - 1) link
    → prefix_of s k ≡ model.combined (prefix_of s (k - 1)) link.combinator (compound_view link.compound)
goal-prefix s k link some within e =
    let one : k ≡ suc (k - 1) = omega (arith, some) in
    let long : length (links_of s) ≡ length (out-Selector s).links = length-map (out-Selector s).links link_view in
    ap (prefix_of s) one ∙ prefix-more s (k - 1) link (omega (arith, some, within, long)) e

goal-splits : (root : Node) (s : Selector) (goal : Goal) (link : Link) → 0 < goal.links → goal.links ≤ length (links_of s)
    → link ≡ slice_index_or (out-Selector s).links (goal.links - 1) link
    → goal_matches root s goal ≡ compound_matches root (compound_view link.compound) goal.at && matches_one root s (goal.links - 1) (left_of link.combinator goal.at root)
goal-splits root s goal link some within e = ap (λ t. matches root t goal.at) (goal-prefix s goal.links link some within e)

pub goal-open : (root : Node) (s : Selector) (goal : Goal) (link : Link) → 0 < goal.links → goal.links ≤ length (links_of s)
    → link ≡ slice_index_or (out-Selector s).links (goal.links - 1) link → compound_matches root (compound_view link.compound) goal.at ≡ true
    → IsOpen root s goal link.combinator
goal-open root s goal link some within e matches = record {
  some = some;
  compound = compound_view link.compound;
  prefix = goal-prefix s goal.links link some within e;
  left = goal-splits root s goal link some within e
      ∙ ap (λ b. b && matches_one root s (goal.links - 1) (left_of link.combinator goal.at root)) matches;
}

pub goal-fails : (root : Node) (s : Selector) (goal : Goal) (link : Link) → 0 < goal.links → goal.links ≤ length (links_of s)
    → link ≡ slice_index_or (out-Selector s).links (goal.links - 1) link → compound_matches root (compound_view link.compound) goal.at ≡ false
    → goal_matches root s goal ≡ false
goal-fails root s goal link some within e fails =
    goal-splits root s goal link some within e
    ∙ ap (λ b. b && matches_one root s (goal.links - 1) (left_of link.combinator goal.at root)) fails
