-- The level of a node, and the height of a tree.
use Rattle.std.proofs.Common.{Bool, None, Option, Some, ap, arith, cond, eq-eqb, false, inl, inr, is_some, option_and_then, option_map, refl, suc, sym, true, ℕ, ◌==◌, ◌∙◌, ◌≡◌, ◌≤◌, ◌⊎◌}
use Rattle.std.proofs.lemmas.Bool.{cases_Bool, false≢true}
use Rattle.std.proofs.lemmas.Option.{none-some, same_Some}
use Rattle.page_laws.proofs.Find.{among-children, among-find, find-among}
use Rattle.page_laws.proofs.IsAmong.{among-other, distinct-apart, distinct-left, distinct-right, is_among-true}
use Rattle.page_laws.proofs.Options.{if-found, is_some-both, none-or-some, or-found, suc-some}
use Rattle.page_laws.proofs.ParentOf.{all_parent-among, parent-among}
use Rattle.page_model.specs.Document.{AreDistinct, IsAmong, Node, Nodes, all_ids, element, find, find_in, height, heights, id_of, ids, ids_of, is_among, no_nodes, node, parent_below, parent_in, parent_of, text}
use Rattle.page_model.specs.Edits.{level, level_in}

pub is_some-suc : (o : Option ℕ) → is_some (option_map (λ l. suc l) o) ≡ is_some o
is_some-suc None = refl
is_some-suc (Some l) = refl

mutual
  pub level-found : (i : ℕ) (n : Node) → is_some (level i n) ≡ is_some (find i n)
  level-found i (element id name attributes children) = elim (cases_Bool (i == id)) [
    | inl t ↦ rw t refl
    | inr f ↦ rw f (is_some-suc (level_in i children) ∙ level_in-found i children)
  ]
  level-found i (text id cs) = elim (cases_Bool (i == id)) [
    | inl t ↦ rw t refl
    | inr f ↦ rw f refl
  ]

  pub level_in-found : (i : ℕ) (ns : Nodes) → is_some (level_in i ns) ≡ is_some (find_in i ns)
  level_in-found i no_nodes = refl
  level_in-found i (node n ns) =
      is_some-both (level i n) (level_in i ns) (find i n) (find_in i ns) (level-found i n) (level_in-found i ns)

-- the level of an element's own number, or one of those below it
pub level-element : (b : Bool) (o : Option ℕ) (l : ℕ) → cond b (Some 1) (option_map (λ k. suc k) o) ≡ Some l → ((b ≡ true) × (l ≡ 1)) ⊎ ((b ≡ false) × ((k : ℕ) × (o ≡ Some k) × (l ≡ suc k)))
level-element true o l h = inl (refl, sym (same_Some 1 l h))
level-element false o l h = inr (refl, suc-some o l h)

pub level-text : (b : Bool) (l : ℕ) → cond b (Some 1) None ≡ Some l → (b ≡ true) × (l ≡ 1)
level-text true l h = (refl, sym (same_Some 1 l h))
level-text false l h = absurd (none-some l h)

mutual
  pub level-height : (i l : ℕ) (n : Node) → level i n ≡ Some l → l ≤ height n
  level-height i l (element id name attributes children) h = elim (level-element (i == id) (level_in i children) l h) [
    | inl e ↦ omega (arith, e.1)
    | inr e ↦ let below : e.1.0 ≤ heights children = level_in-height i e.1.0 children e.1.1 in omega (arith, below, e.1.2)
  ]
  level-height i l (text id cs) h = let e = level-text (i == id) l h in omega (arith, e.1)

  pub level_in-height : (i l : ℕ) (ns : Nodes) → level_in i ns ≡ Some l → l ≤ heights ns
  level_in-height i l no_nodes h = absurd (none-some l h)
  level_in-height i l (node n ns) h = elim (or-found (level i n) (level_in i ns) l h) [
    | inl k ↦ let here : l ≤ height n = level-height i l n k in omega (arith, here)
    | inr k ↦ let there : l ≤ heights ns = level_in-height i l ns k.1 in omega (arith, there)
  ]

mutual
  pub find-height : (i : ℕ) (n p : Node) → find i n ≡ Some p → height p ≤ height n
  find-height i (element id name attributes children) p h = elim (if-found (i == id) (element id name attributes children) p (find_in i children) h) [
    | inl k ↦ let same : suc (heights children) ≡ height p = ap height (same_Some (element id name attributes children) p k.1) in omega (arith, same)
    | inr k ↦ let below : height p ≤ heights children = find_in-height i children p k.1 in omega (arith, below)
  ]
  find-height i (text id cs) p h = elim (if-found (i == id) (text id cs) p None h) [
    | inl k ↦ let same : 1 ≡ height p = ap height (same_Some (text id cs) p k.1) in omega (arith, same)
    | inr k ↦ absurd (none-some p k.1)
  ]

  pub find_in-height : (i : ℕ) (ns : Nodes) (p : Node) → find_in i ns ≡ Some p → height p ≤ heights ns
  find_in-height i no_nodes p h = absurd (none-some p h)
  find_in-height i (node n ns) p h = elim (or-found (find i n) (find_in i ns) p h) [
    | inl k ↦ let here : height p ≤ height n = find-height i n p k in omega (arith, here)
    | inr k ↦ let there : height p ≤ heights ns = find_in-height i ns p k.1 in omega (arith, there)
  ]

pub level-top : (n : Node) → level (id_of n) n ≡ Some 1
level-top (element id name attributes children) = ap (λ b. cond b (Some 1) (option_map (λ l. suc l) (level_in id children))) (eq-eqb id id refl)
level-top (text id cs) = ap (λ b. cond b (Some 1) None) (eq-eqb id id refl)

-- a node has a level exactly where it is among the numbers
pub level-among : (i l : ℕ) (n : Node) → level i n ≡ Some l → IsAmong i (ids n)
level-among i l n h = find-among i n (sym (level-found i n) ∙ ap is_some h)

pub unlevelled-absent : (i : ℕ) (n : Node) → level i n ≡ None → IsAmong i (ids n) → ⊥
unlevelled-absent i n h k = false≢true (sym (ap is_some h) ∙ (level-found i n ∙ among-find i n k))

pub level-absent : (i : ℕ) (n : Node) → (IsAmong i (ids n) → ⊥) → level i n ≡ None
level-absent i n out = elim (none-or-some (level i n)) [
  | inl none ↦ none
  | inr some ↦ absurd (out (level-among i some.0 n some.1))
]

-- a child of some nodes' parent stands at 1 among them
pub level_in-child : (i : ℕ) (ns : Nodes) → AreDistinct (all_ids ns) → IsAmong i (ids_of ns) → level_in i ns ≡ Some 1
level_in-child i no_nodes d h = absurd h
level_in-child i (node n ns) d (inl e) = let top : level i n ≡ Some 1 = ap (λ (k : ℕ). level k n) e ∙ level-top n in rw top refl
level_in-child i (node n ns) d (inr h) =
    let none : level i n ≡ None = level-absent i n (λ k. distinct-apart i (ids n) (all_ids ns) d k (among-children i ns h)) in
    rw none (level_in-child i ns (distinct-right (ids n) (all_ids ns) d) h)

-- a child stands one level below its parent
mutual
  pub level-parent : (i : ℕ) (n x : Node) → AreDistinct (ids n) → parent_in i n ≡ Some x → level i n ≡ option_map (λ l. suc l) (level (id_of x) n)
  level-parent i (element id name attributes children) x d h = elim (if-found (is_among i (ids_of children)) (element id name attributes children) x (parent_below i children) h) [
    | inl k ↦
        let kid : IsAmong i (ids_of children) = is_among-true i (ids_of children) k.0 in
        let top : level (id_of x) (element id name attributes children) ≡ Some 1 =
        ap (λ (y : Node). level (id_of y) (element id name attributes children)) (sym (same_Some (element id name attributes children) x k.1)) ∙ level-top (element id name attributes children) in
        ap (λ b. cond b (Some 1) (option_map (λ l. suc l) (level_in i children))) (among-other i id (all_ids children) d (among-children i children kid))
        ∙ (ap (option_map (λ l. suc l)) (level_in-child i children d.1 kid) ∙ sym (ap (option_map (λ l. suc l)) top))
    | inr k ↦
        let both = all_parent-among i children x k.1 in
        let f : (i == id) ≡ false = among-other i id (all_ids children) d both.0 in
        let g : (id_of x == id) ≡ false = among-other (id_of x) id (all_ids children) d both.1 in
        rw (f, g) (ap (option_map (λ l. suc l)) (level_in-parent i children x d.1 k.1))
  ]
  level-parent i (text id cs) x d h = absurd (none-some x h)

  pub level_in-parent : (i : ℕ) (ns : Nodes) (x : Node) → AreDistinct (all_ids ns) → parent_below i ns ≡ Some x → level_in i ns ≡ option_map (λ l. suc l) (level_in (id_of x) ns)
  level_in-parent i no_nodes x d h = absurd (none-some x h)
  level_in-parent i (node n ns) x d h = elim (or-found (parent_in i n) (parent_below i ns) x h) [
    | inl k ↦
        let step : level i n ≡ option_map (λ l. suc l) (level (id_of x) n) = level-parent i n x (distinct-left (ids n) (all_ids ns) d) k in
        elim (none-or-some (level (id_of x) n)) [
          | inl none ↦ absurd (unlevelled-absent (id_of x) n none (parent-among i n x k).1)
          | inr some ↦ rw (step, some.1) refl
        ]
    | inr k ↦
        let both = all_parent-among i ns x k.1 in
        let a : level i n ≡ None = level-absent i n (λ m. distinct-apart i (ids n) (all_ids ns) d m both.0) in
        let b : level (id_of x) n ≡ None = level-absent (id_of x) n (λ m. distinct-apart (id_of x) (ids n) (all_ids ns) d m both.1) in
        rw (a, b) (level_in-parent i ns x (distinct-right (ids n) (all_ids ns) d) k.1)
  ]

pub level-child : (root : Node) (i p : ℕ) → AreDistinct (ids root) → parent_of i root ≡ Some p → level i root ≡ option_map (λ l. suc l) (level p root)
level-child root i p d h = elim (none-or-some (parent_in i root)) [
  | inl none ↦ absurd (none-some p (sym (ap (option_and_then (λ n. Some (id_of n))) none) ∙ h))
  | inr some ↦
      let same : id_of some.0 ≡ p = same_Some (id_of some.0) p (sym (ap (option_and_then (λ n. Some (id_of n))) some.1) ∙ h) in
      level-parent i root some.0 d some.1 ∙ ap (λ (k : ℕ). option_map (λ l. suc l) (level k root)) same
]
