-- The styles of a document, by recursion over its tree.
use Rattle.std.proofs.Common.{◌≡◌, ◌∙◌, ◌==◌, ap, cond, sym, refl, ℕ, ℤ, false, None, Option, Some, ◌⊎◌, inl, inr, eq-eqb, eqb-true, List, if◌then◌else◌, option_and_then}
use Rattle.std.proofs.lemmas.Bool.{cases_Bool}
use Rattle.std.proofs.lemmas.Option.{none-some}
use Rattle.page_laws.proofs.Find.{some-among, unfound-absent}
use Rattle.page_laws.proofs.IsAmong.{among-left, among-other, among-right, distinct-apart, distinct-left, distinct-right}
use Rattle.page_laws.proofs.Options.{none-or-some}
use Rattle.page_model.specs.Document.{AreDistinct, IsAmong, Node, Nodes, all_ids, element, find, find_in, id_of, ids, name_of, no_nodes, node, or_else, text}
use Rattle.page_model.specs.Trees.{Attribute, Text}
use Rattle.cascade_model.specs.Styling.{Styling}
use Rattle.cascade_model.specs.DocumentStyles.{AllStyledBelow, AreStyled, Page, Styles, child_style, root_style}
use Rattle.cascade_laws.specs.Styles.{HasNoOther, root_font_size}
use Rattle.cascade_laws.proofs.AreStyled.{IsStyledAt, at-below, at-root}

-- the style of the element `i` of a tree whose top has this style
abbrev mutual
  pub style_at : Page → ℤ → Styling → ℕ → Node → Option Styling
  style_at page rem style i (element id name attributes children) =
      if i == id then Some style else style_among page rem style i children
  style_at page rem style i (text id cs) = None

  pub style_among : Page → ℤ → Styling → ℕ → Nodes → Option Styling
  style_among page rem style i no_nodes = None
  style_among page rem style i (node n ns) =
      or_else (style_at page rem (child_style page style rem (id_of n)) i n) (style_among page rem style i ns)

-- the styles of a document
abbrev pub styles_of : Page → Node → Styles
styles_of page root i = style_at page (root_font_size page root) (root_style page (id_of root)) i root

-- ---- what is not in a tree has no style in it

mutual
  absent-at : (page : Page) (rem : ℤ) (style : Styling) (i : ℕ) (n : Node) → (IsAmong i (ids n) → ⊥)
      → style_at page rem style i n ≡ None
  absent-at page rem style i (element id name attributes children) out = elim (cases_Bool (i == id)) [
    | inl t ↦ absurd (out (inl (eqb-true i id t)))
    | inr f ↦ rw f (absent-among page rem style i children (λ h. out (inr h)))
  ]
  absent-at page rem style i (text id cs) out = refl

  absent-among : (page : Page) (rem : ℤ) (style : Styling) (i : ℕ) (ns : Nodes) → (IsAmong i (all_ids ns) → ⊥)
      → style_among page rem style i ns ≡ None
  absent-among page rem style i no_nodes out = refl
  absent-among page rem style i (node n ns) out =
      rw (absent-at page rem (child_style page style rem (id_of n)) i n (λ h. out (among-left i (ids n) (all_ids ns) h)))
      (absent-among page rem style i ns (λ h. out (among-right i (ids n) (all_ids ns) h)))

-- ---- nor has what is no element

-- a node without a name is not found, or it is a text
named-none : (o : Option Node) → option_and_then name_of o ≡ None → (o ≡ None) ⊎ ((x : Node) × (o ≡ Some x) × (name_of x ≡ None))
named-none None h = inl refl
named-none (Some x) h = inr (x, refl, h)

mutual
  unnamed-at : (page : Page) (rem : ℤ) (style : Styling) (i : ℕ) (n : Node) → AreDistinct (ids n)
      → option_and_then name_of (find i n) ≡ None → style_at page rem style i n ≡ None
  unnamed-at page rem style i (element id name attributes children) d h = elim (cases_Bool (i == id)) [
    | inl t ↦ absurd (none-some name (sym (rw t at h)))
    | inr f ↦ rw f (unnamed-among page rem style i children d.1 (rw f at h))
  ]
  unnamed-at page rem style i (text id cs) d h = refl

  unnamed-among : (page : Page) (rem : ℤ) (style : Styling) (i : ℕ) (ns : Nodes) → AreDistinct (all_ids ns)
      → option_and_then name_of (find_in i ns) ≡ None → style_among page rem style i ns ≡ None
  unnamed-among page rem style i no_nodes d h = refl
  unnamed-among page rem style i (node n ns) d h = elim (none-or-some (find i n)) [
    | inl none ↦
        rw (absent-at page rem (child_style page style rem (id_of n)) i n (unfound-absent i n none))
        (unnamed-among page rem style i ns (distinct-right (ids n) (all_ids ns) d) (rw none at h))
    | inr some ↦
        let here : option_and_then name_of (find i n) ≡ None = rw some.1 (rw some.1 at h) in
        rw (unnamed-at page rem (child_style page style rem (id_of n)) i n (distinct-left (ids n) (all_ids ns) d) here)
        (absent-among page rem style i ns
        (λ k. distinct-apart i (ids n) (all_ids ns) d (some-among i n some.0 some.1) k))
  ]

-- ---- a part of a tree has the same styles as the whole

-- an id of this tree has the style that it has by itself
abbrev Gives : Page → ℤ → Styling → Styles → Node → Type 0
Gives page rem style styles n = (i : ℕ) → IsAmong i (ids n) → styles i ≡ style_at page rem style i n

-- the same of these trees
abbrev GivesAll : Page → ℤ → Styling → Styles → Nodes → Type 0
GivesAll page rem style styles ns = (i : ℕ) → IsAmong i (all_ids ns) → styles i ≡ style_among page rem style i ns

gives-children : (page : Page) (rem : ℤ) (style : Styling) (styles : Styles) (id : ℕ) (name : Text) (attributes : List Attribute) (children : Nodes)
    → AreDistinct (ids (element id name attributes children)) → Gives page rem style styles (element id name attributes children)
    → GivesAll page rem style styles children
gives-children page rem style styles id name attributes children d f = λ i h.
    let other : (i == id) ≡ false = among-other i id (all_ids children) d h in
    let here : style_at page rem style i (element id name attributes children) ≡ style_among page rem style i children = rw other refl in
    f i (inr h) ∙ here

or-absent : {X : Type 0} (o p : Option X) → p ≡ None → or_else o p ≡ o
or-absent (Some x) p e = refl
or-absent None p e = e

gives-first : (page : Page) (rem : ℤ) (style : Styling) (styles : Styles) (n : Node) (ns : Nodes)
    → AreDistinct (all_ids (node n ns)) → GivesAll page rem style styles (node n ns)
    → Gives page rem (child_style page style rem (id_of n)) styles n
gives-first page rem style styles n ns d f = λ i h.
    f i (among-left i (ids n) (all_ids ns) h)
    ∙ or-absent (style_at page rem (child_style page style rem (id_of n)) i n) (style_among page rem style i ns)
    (absent-among page rem style i ns (λ k. distinct-apart i (ids n) (all_ids ns) d h k))

gives-rest : (page : Page) (rem : ℤ) (style : Styling) (styles : Styles) (n : Node) (ns : Nodes)
    → AreDistinct (all_ids (node n ns)) → GivesAll page rem style styles (node n ns) → GivesAll page rem style styles ns
gives-rest page rem style styles n ns d f = λ i h.
    f i (among-right i (ids n) (all_ids ns) h)
    ∙ ap (λ o. or_else o (style_among page rem style i ns))
    (absent-at page rem (child_style page style rem (id_of n)) i n (λ k. distinct-apart i (ids n) (all_ids ns) d k h))

-- ---- they are the styles of the cascade

style-top : (page : Page) (rem : ℤ) (style : Styling) (id : ℕ) (name : Text) (attributes : List Attribute) (children : Nodes)
    → style_at page rem style id (element id name attributes children) ≡ Some style
style-top page rem style id name attributes children =
    ap (λ b. cond b (Some style) (style_among page rem style id children)) (eq-eqb id id refl)

mutual
  styled-at : (page : Page) (rem : ℤ) (style : Styling) (styles : Styles) (n : Node) → AreDistinct (ids n)
      → Gives page rem style styles n → IsStyledAt page style rem styles n
  styled-at page rem style styles (element id name attributes children) d f = (
    f id (inl refl) ∙ style-top page rem style id name attributes children,
    styled-among page rem style styles children d.1
        (gives-children page rem style styles id name attributes children d f),
  )
  styled-at page rem style styles (text id cs) d f = f id (inl refl)

  styled-among : (page : Page) (rem : ℤ) (style : Styling) (styles : Styles) (ns : Nodes) → AreDistinct (all_ids ns)
      → GivesAll page rem style styles ns → AllStyledBelow page style rem styles ns
  styled-among page rem style styles no_nodes d f = tt
  styled-among page rem style styles (node n ns) d f = (
    at-below page style rem styles n
        (styled-at page rem (child_style page style rem (id_of n)) styles n (distinct-left (ids n) (all_ids ns) d)
        (gives-first page rem style styles n ns d f)),
    styled-among page rem style styles ns (distinct-right (ids n) (all_ids ns) d)
        (gives-rest page rem style styles n ns d f),
  )

pub some-styled : (page : Page) (root : Node) → AreDistinct (ids root)
    → (styles : Styles) × AreStyled page styles root × HasNoOther styles root
some-styled page root d = (
  styles_of page root,
  at-root page (styles_of page root) root
      (styled-at page (root_font_size page root) (root_style page (id_of root)) (styles_of page root) root d (λ i h. refl)),
  λ i none. unnamed-at page (root_font_size page root) (root_style page (id_of root)) i root d none,
)
