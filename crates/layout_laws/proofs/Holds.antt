-- What the equations say of an element that is found by its id.
use Rattle.std.proofs.Common.{IsSome, None, Option, Some, ap, eqb-true, inl, inr, is_some, subst, sym, ℕ, ◌==◌, ◌∙◌, ◌≡◌}
use Rattle.std.proofs.lemmas.Bool.{false≢true}
use Rattle.std.proofs.lemmas.Option.{none-some, same_Some}
use Rattle.layout_model.specs.Boxes.{Box, Containing, IsFlatBlock, content_block, viewport_block}
use Rattle.layout_model.specs.Consistent.{AllHold, Assignment, Consistent, Entry, Holds}
use Rattle.layout_model.specs.Setting.{Setting}
use Rattle.page_laws.proofs.Find.{named-some}
use Rattle.page_laws.proofs.Options.{if-found, none-or-some, or-found}
use Rattle.page_model.specs.Document.{Node, Nodes, element, find, find_in, name_at, name_of, no_nodes, node, text}
use Rattle.page_model.specs.Pages.{Page}

box-same : (around : Containing) (x y : Box) → IsFlatBlock around x → IsFlatBlock around y → x ≡ y
box-same around x y p q = λ j. record {
  left = (p.left ∙ sym q.left) j;
  top = (p.top ∙ sym q.top) j;
  width = (p.width ∙ sym q.width) j;
  height = (p.height ∙ sym q.height) j;
  content_left = (p.content_left ∙ sym q.content_left) j;
  content_top = (p.content_top ∙ sym q.content_top) j;
  content_width = (p.content_width ∙ (p.width ∙ (sym q.width ∙ sym q.content_width))) j;
  content_height = (p.content_height ∙ (p.height ∙ (sym q.height ∙ sym q.content_height))) j;
}

-- what an element with this box is given
abbrev given : Box → Option Entry
given box = Some (record { box = box })

-- two assignments whose equations hold give an element the same
mutual
  holds-same : (a b : Assignment) (around : Containing) (n : Node) → Holds a around n → Holds b around n
      → (i : ℕ) (m : Node) → find i n ≡ Some m → IsSome (name_of m) → a i ≡ b i
  holds-same a b around (element id name attributes children) h k i m found named =
      let box : h.0.box ≡ k.0.box = box-same around h.0.box k.0.box h.2 k.2 in
      elim (if-found (i == id) (element id name attributes children) m (find_in i children) found) [
        | inl e ↦ subst (λ (j : ℕ). a j ≡ b j) (sym (eqb-true i id e.0))
            (h.1 ∙ (ap given box ∙ sym k.1))
        | inr e ↦ all-hold-same a b (content_block h.0.box) children h.3
            (subst (λ (x : Box). AllHold b (content_block x) children) (sym box) k.3) i m e.1 named
      ]
  holds-same a b around (text id cs) h k i m found named = elim (if-found (i == id) (text id cs) m None found) [
    | inl e ↦ absurd (false≢true (subst (λ (x : Node). IsSome (name_of x)) (sym (same_Some (text id cs) m e.1)) named))
    | inr e ↦ absurd (none-some m e.1)
  ]

  all-hold-same : (a b : Assignment) (around : Containing) (ns : Nodes) → AllHold a around ns → AllHold b around ns
      → (i : ℕ) (m : Node) → find_in i ns ≡ Some m → IsSome (name_of m) → a i ≡ b i
  all-hold-same a b around no_nodes h k i m found named = absurd (none-some m found)
  all-hold-same a b around (node n ns) h k i m found named = elim (or-found (find i n) (find_in i ns) m found) [
    | inl e ↦ holds-same a b around n h.0 k.0 i m e named
    | inr e ↦ all-hold-same a b around ns h.1 k.1 i m e.1 named
  ]

pub consistent-same : (setting : Setting) (page : Page) (a b : Assignment) → Consistent setting page a → Consistent setting page b → (i : ℕ) → a i ≡ b i
consistent-same setting page a b h k i = elim (none-or-some (name_at i page.document.root)) [
  | inl none ↦ h.no_other i none ∙ sym (k.no_other i none)
  | inr some ↦
      let n = named-some (find i page.document.root) (ap is_some some.1) in
      holds-same a b (viewport_block page.viewport) page.document.root h.holds k.holds i n.0 n.1.0 n.1.1
]

-- an assignment whose equations hold gives an element an entry
mutual
  holds-some : (a : Assignment) (around : Containing) (n : Node) → Holds a around n
      → (i : ℕ) (m : Node) → find i n ≡ Some m → IsSome (name_of m) → IsSome (a i)
  holds-some a around (element id name attributes children) h i m found named =
      elim (if-found (i == id) (element id name attributes children) m (find_in i children) found) [
        | inl e ↦ subst (λ (j : ℕ). IsSome (a j)) (sym (eqb-true i id e.0)) (ap is_some h.1)
        | inr e ↦ all-hold-some a (content_block h.0.box) children h.3 i m e.1 named
      ]
  holds-some a around (text id cs) h i m found named = elim (if-found (i == id) (text id cs) m None found) [
    | inl e ↦ absurd (false≢true (subst (λ (x : Node). IsSome (name_of x)) (sym (same_Some (text id cs) m e.1)) named))
    | inr e ↦ absurd (none-some m e.1)
  ]

  all-hold-some : (a : Assignment) (around : Containing) (ns : Nodes) → AllHold a around ns
      → (i : ℕ) (m : Node) → find_in i ns ≡ Some m → IsSome (name_of m) → IsSome (a i)
  all-hold-some a around no_nodes h i m found named = absurd (none-some m found)
  all-hold-some a around (node n ns) h i m found named = elim (or-found (find i n) (find_in i ns) m found) [
    | inl e ↦ holds-some a around n h.0 i m e named
    | inr e ↦ all-hold-some a around ns h.1 i m e.1 named
  ]

pub consistent-some : (setting : Setting) (page : Page) (a : Assignment) (i : ℕ) → Consistent setting page a
    → IsSome (name_at i page.document.root) → IsSome (a i)
consistent-some setting page a i h named =
    let n = named-some (find i page.document.root) named in
    holds-some a (viewport_block page.viewport) page.document.root h.holds i n.0 n.1.0 n.1.1

pub consistent-element : (setting : Setting) (page : Page) (a : Assignment) (i : ℕ) → Consistent setting page a
    → IsSome (a i) → IsSome (name_at i page.document.root)
consistent-element setting page a i h some = elim (none-or-some (name_at i page.document.root)) [
  | inl none ↦ absurd (false≢true (ap is_some (sym (h.no_other i none)) ∙ some))
  | inr named ↦ ap is_some named.1
]
