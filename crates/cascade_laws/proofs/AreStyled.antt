-- Styles of the elements that are found by their ids.
use Rattle.std.proofs.Common.{◌≡◌, ◌∙◌, ◌==◌, ap, sym, refl, subst, cond, Bool, true, false, ℕ, ℤ, None, Option, Some, IsSome, is_some, inl, inr, eqb-true, option_and_then}
use Rattle.std.proofs.lemmas.Bool.{false≢true}
use Rattle.std.proofs.lemmas.Option.{none-some, same_Some}
use Rattle.page_laws.proofs.Find.{find-top, named-some}
use Rattle.page_laws.proofs.IsAmong.{is_among-true}
use Rattle.page_laws.proofs.Options.{if-found, none-or-some, or-found}
use Rattle.page_model.specs.Document.{IsAmong, Node, Nodes, element, find, find_in, id_of, ids_of, is_among, name_at, name_of, no_nodes, node, parent_below, parent_in, parent_of, text}
use Rattle.cascade_model.specs.Styling.{Styling}
use Rattle.cascade_model.specs.DocumentStyles.{AllStyledBelow, AreStyled, AreStyledBelow, Page, Styles, child_style, root_style}
use Rattle.cascade_laws.proofs.Parentless.{parentless-root}
use Rattle.cascade_laws.specs.Styles.{IsChildOfStyled, root_font_size}

-- ---- trees of which the top has a given style

-- the top, if it is an element, has this style, and those below it have their styles
abbrev pub IsStyledAt : Page → Styling → ℤ → Styles → Node → Type 0
IsStyledAt page style rem styles (element i name attributes children) =
    (styles i ≡ Some style) × AllStyledBelow page style rem styles children
IsStyledAt page style rem styles (text i cs) = styles i ≡ None

pub below-at : (page : Page) (parent : Styling) (rem : ℤ) (styles : Styles) (n : Node)
    → AreStyledBelow page parent rem styles n → IsStyledAt page (child_style page parent rem (id_of n)) rem styles n
below-at page parent rem styles (element i name attributes children) h = h
below-at page parent rem styles (text i cs) h = h

pub at-below : (page : Page) (parent : Styling) (rem : ℤ) (styles : Styles) (n : Node)
    → IsStyledAt page (child_style page parent rem (id_of n)) rem styles n → AreStyledBelow page parent rem styles n
at-below page parent rem styles (element i name attributes children) h = h
at-below page parent rem styles (text i cs) h = h

pub root-at : (page : Page) (styles : Styles) (root : Node)
    → AreStyled page styles root → IsStyledAt page (root_style page (id_of root)) (root_font_size page root) styles root
root-at page styles (element i name attributes children) h = h
root-at page styles (text i cs) h = h

pub at-root : (page : Page) (styles : Styles) (root : Node)
    → IsStyledAt page (root_style page (id_of root)) (root_font_size page root) styles root → AreStyled page styles root
at-root page styles (element i name attributes children) h = h
at-root page styles (text i cs) h = h

-- ---- the root

pub root-style : (page : Page) (styles : Styles) (root : Node) → AreStyled page styles root
    → IsSome (name_of root) → styles (id_of root) ≡ Some (root_style page (id_of root))
root-style page styles (element i name attributes children) h named = h.0
root-style page styles (text i cs) h named = absurd (false≢true named)

-- the same of an element without a parent
pub parentless-style : (page : Page) (styles : Styles) (root : Node) (i : ℕ) → AreStyled page styles root
    → IsSome (name_at i root) → parent_of i root ≡ None → styles i ≡ Some (root_style page i)
parentless-style page styles root i h named alone =
    let top : i ≡ id_of root = parentless-root root i named alone in
    let named_root : IsSome (name_of root) =
    subst (λ (o : Option Node). IsSome (option_and_then name_of o)) (ap (λ (j : ℕ). find j root) top ∙ find-top root) named in
    ap styles top ∙ (root-style page styles root h named_root ∙ ap (λ (j : ℕ). Some (root_style page j)) (sym top))

-- ---- each element has a style

-- what is found in a text has no name
unnamed : (b : Bool) (n m : Node) → cond b (Some n) None ≡ Some m → name_of n ≡ None → IsSome (name_of m) → ⊥
unnamed true n m found none named =
    false≢true (ap is_some (sym none) ∙ (ap (λ x. is_some (name_of x)) (same_Some n m found) ∙ named))
unnamed false n m found none named = none-some m found

mutual
  some-at : (page : Page) (style : Styling) (rem : ℤ) (styles : Styles) (n : Node) → IsStyledAt page style rem styles n
      → (i : ℕ) (m : Node) → find i n ≡ Some m → IsSome (name_of m) → IsSome (styles i)
  some-at page style rem styles (element id name attributes children) h i m found named =
      elim (if-found (i == id) (element id name attributes children) m (find_in i children) found) [
        | inl e ↦ subst (λ (j : ℕ). IsSome (styles j)) (sym (eqb-true i id e.0)) (ap is_some h.0)
        | inr e ↦ some-below page style rem styles children h.1 i m e.1 named
      ]
  some-at page style rem styles (text id cs) h i m found named =
      absurd (unnamed (i == id) (text id cs) m found refl named)

  some-below : (page : Page) (style : Styling) (rem : ℤ) (styles : Styles) (ns : Nodes) → AllStyledBelow page style rem styles ns
      → (i : ℕ) (m : Node) → find_in i ns ≡ Some m → IsSome (name_of m) → IsSome (styles i)
  some-below page style rem styles no_nodes h i m found named = absurd (none-some m found)
  some-below page style rem styles (node n ns) h i m found named = elim (or-found (find i n) (find_in i ns) m found) [
    | inl e ↦ some-at page (child_style page style rem (id_of n)) rem styles n (below-at page style rem styles n h.0) i m e named
    | inr e ↦ some-below page style rem styles ns h.1 i m e.1 named
  ]

pub element-some : (page : Page) (styles : Styles) (root : Node) → AreStyled page styles root
    → (i : ℕ) → IsSome (name_at i root) → IsSome (styles i)
element-some page styles root h i named =
    let n = named-some (find i root) named in
    some-at page (root_style page (id_of root)) (root_font_size page root) styles root (root-at page styles root h) i n.0 n.1.0 n.1.1

-- ---- and no two

mutual
  same-at : (page : Page) (style : Styling) (rem : ℤ) (a b : Styles) (n : Node)
      → IsStyledAt page style rem a n → IsStyledAt page style rem b n
      → (i : ℕ) (m : Node) → find i n ≡ Some m → IsSome (name_of m) → a i ≡ b i
  same-at page style rem a b (element id name attributes children) h k i m found named =
      elim (if-found (i == id) (element id name attributes children) m (find_in i children) found) [
        | inl e ↦ subst (λ (j : ℕ). a j ≡ b j) (sym (eqb-true i id e.0)) (h.0 ∙ sym k.0)
        | inr e ↦ same-below page style rem a b children h.1 k.1 i m e.1 named
      ]
  same-at page style rem a b (text id cs) h k i m found named =
      absurd (unnamed (i == id) (text id cs) m found refl named)

  same-below : (page : Page) (style : Styling) (rem : ℤ) (a b : Styles) (ns : Nodes)
      → AllStyledBelow page style rem a ns → AllStyledBelow page style rem b ns
      → (i : ℕ) (m : Node) → find_in i ns ≡ Some m → IsSome (name_of m) → a i ≡ b i
  same-below page style rem a b no_nodes h k i m found named = absurd (none-some m found)
  same-below page style rem a b (node n ns) h k i m found named = elim (or-found (find i n) (find_in i ns) m found) [
    | inl e ↦ same-at page (child_style page style rem (id_of n)) rem a b n
        (below-at page style rem a n h.0) (below-at page style rem b n k.0) i m e named
    | inr e ↦ same-below page style rem a b ns h.1 k.1 i m e.1 named
  ]

pub element-same : (page : Page) (a b : Styles) (root : Node) → AreStyled page a root → AreStyled page b root
    → (i : ℕ) → IsSome (name_at i root) → a i ≡ b i
element-same page a b root h k i named =
    let n = named-some (find i root) named in
    same-at page (root_style page (id_of root)) (root_font_size page root) a b root
    (root-at page a root h) (root-at page b root k) i n.0 n.1.0 n.1.1

-- ---- children

-- a style above, and that of a child of what has it
abbrev ChildOf : Page → ℤ → Styles → ℕ → ℕ → Type 0
ChildOf page rem styles i p =
    (parent : Styling) × (styles p ≡ Some parent) × (styles i ≡ Some (child_style page parent rem i))

-- one of the tops that has a style
top-style : (page : Page) (style : Styling) (rem : ℤ) (styles : Styles) (ns : Nodes) → AllStyledBelow page style rem styles ns
    → (i : ℕ) → IsAmong i (ids_of ns) → IsSome (styles i) → styles i ≡ Some (child_style page style rem i)
top-style page style rem styles no_nodes h i among some = absurd among
top-style page style rem styles (node (element id name attributes children) ns) h i (inl e) some =
    subst (λ (j : ℕ). styles j ≡ Some (child_style page style rem j)) (sym e) h.0.0
top-style page style rem styles (node (text id cs) ns) h i (inl e) some =
    absurd (false≢true (ap is_some (sym h.0) ∙ subst (λ (j : ℕ). IsSome (styles j)) e some))
top-style page style rem styles (node n ns) h i (inr k) some = top-style page style rem styles ns h.1 i k some

mutual
  child-at : (page : Page) (style : Styling) (rem : ℤ) (styles : Styles) (n : Node) → IsStyledAt page style rem styles n
      → (i : ℕ) (x : Node) → parent_in i n ≡ Some x → IsSome (styles i) → ChildOf page rem styles i (id_of x)
  child-at page style rem styles (element id name attributes children) h i x up some =
      elim (if-found (is_among i (ids_of children)) (element id name attributes children) x (parent_below i children) up) [
        | inl e ↦
            let same : id ≡ id_of x = ap id_of (same_Some (element id name attributes children) x e.1) in
            subst (λ (p : ℕ). ChildOf page rem styles i p) same
            (style, h.0, top-style page style rem styles children h.1 i (is_among-true i (ids_of children) e.0) some)
        | inr e ↦ child-below page style rem styles children h.1 i x e.1 some
      ]
  child-at page style rem styles (text id cs) h i x up some = absurd (none-some x up)

  child-below : (page : Page) (style : Styling) (rem : ℤ) (styles : Styles) (ns : Nodes) → AllStyledBelow page style rem styles ns
      → (i : ℕ) (x : Node) → parent_below i ns ≡ Some x → IsSome (styles i) → ChildOf page rem styles i (id_of x)
  child-below page style rem styles no_nodes h i x up some = absurd (none-some x up)
  child-below page style rem styles (node n ns) h i x up some = elim (or-found (parent_in i n) (parent_below i ns) x up) [
    | inl e ↦ child-at page (child_style page style rem (id_of n)) rem styles n (below-at page style rem styles n h.0) i x e some
    | inr e ↦ child-below page style rem styles ns h.1 i x e.1 some
  ]

-- the node whose id is the parent
parent-id : (root : Node) (i p : ℕ) → parent_of i root ≡ Some p → (x : Node) × (parent_in i root ≡ Some x) × (id_of x ≡ p)
parent-id root i p h = elim (none-or-some (parent_in i root)) [
  | inl none ↦ absurd (none-some p (sym (ap (option_and_then (λ n. Some (id_of n))) none) ∙ h))
  | inr some ↦ (some.0, some.1, same_Some (id_of some.0) p (sym (ap (option_and_then (λ n. Some (id_of n))) some.1) ∙ h))
]

pub child-style : (page : Page) (styles : Styles) (root : Node) → AreStyled page styles root
    → (i p : ℕ) → IsSome (name_at i root) → parent_of i root ≡ Some p → IsChildOfStyled page styles root i p
child-style page styles root h i p named up =
    let x = parent-id root i p up in
    let both : ChildOf page (root_font_size page root) styles i (id_of x.0) =
    child-at page (root_style page (id_of root)) (root_font_size page root) styles root
    (root-at page styles root h) i x.0 x.1 (element-some page styles root h i named) in
    record {
      parent = both.0;
      above = ap styles (sym x.2) ∙ both.1;
      own = both.2;
    }

-- the same of a parent whose style is known
pub child-of-known : (page : Page) (styles : Styles) (root : Node) (i p : ℕ) (style : Styling) → AreStyled page styles root
    → IsSome (name_at i root) → parent_of i root ≡ Some p → styles p ≡ Some style
    → styles i ≡ Some (child_style page style (root_font_size page root) i)
child-of-known page styles root i p style h named up known =
    let c : IsChildOfStyled page styles root i p = child-style page styles root h i p named up in
    c.own ∙ ap (λ s. Some (child_style page s (root_font_size page root) i)) (same_Some c.parent style (sym c.above ∙ known))
