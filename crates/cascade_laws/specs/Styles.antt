-- What holds of the styles of a document.
use Rattle.std.specs.Prelude.{ℕ, ℤ, ◌≡◌, Some, None, IsSome}
use Rattle.page_model.specs.Document.{Node, AreDistinct, ids, id_of, name_of, name_at, parent_of}
use Rattle.cascade_model.specs.Defaulting.{font_size_in}
use Rattle.cascade_model.specs.Styling.{Styling}
use Rattle.cascade_model.specs.DocumentStyles.{Page, Styles, AreStyled, child_style, root_style}

-- what is no element has no style
abbrev pub HasNoOther : Styles → Node → Type 0
HasNoOther styles root = (i : ℕ) → name_at i root ≡ None → styles i ≡ None

-- a document on which no id stands twice has styles
abbrev pub HaveStyles : Type 0
HaveStyles = (page : Page) (root : Node) → AreDistinct (ids root)
    → (styles : Styles) × AreStyled page styles root × HasNoOther styles root

-- two of them agree at each element
abbrev pub HaveOneStyle : Type 0
HaveOneStyle = (page : Page) (styles others : Styles) (root : Node)
    → AreStyled page styles root → AreStyled page others root
    → (i : ℕ) → IsSome (name_at i root) → styles i ≡ others i

-- each element has a style
abbrev pub HaveEachAStyle : Type 0
HaveEachAStyle = (page : Page) (styles : Styles) (root : Node) → AreStyled page styles root
    → (i : ℕ) → IsSome (name_at i root) → IsSome (styles i)

-- the root, if it is an element, has the style of a root
abbrev pub HaveRootStyle : Type 0
HaveRootStyle = (page : Page) (styles : Styles) (root : Node) → AreStyled page styles root
    → IsSome (name_of root) → styles (id_of root) ≡ Some (root_style page (id_of root))

-- an element without a parent is the root
abbrev pub HaveOneRoot : Type 0
HaveOneRoot = (root : Node) (i : ℕ) → IsSome (name_at i root) → parent_of i root ≡ None → i ≡ id_of root

-- the font size of the root
abbrev pub root_font_size : Page → Node → ℤ
root_font_size page root = font_size_in (root_style page (id_of root)).style

-- the parent `p` has a style, and the element `i` has the style of its child
pub record IsChildOfStyled (page : Page) (styles : Styles) (root : Node) (i p : ℕ) : Type 0 where
  pub parent : Styling
  pub above : styles p ≡ Some parent
  pub own : styles i ≡ Some (child_style page parent (root_font_size page root) i)

-- each element that has a parent has the style of a child of it
abbrev pub HaveChildStyles : Type 0
HaveChildStyles = (page : Page) (styles : Styles) (root : Node) → AreStyled page styles root
    → (i p : ℕ) → IsSome (name_at i root) → parent_of i root ≡ Some p → IsChildOfStyled page styles root i p
