-- What a list of declarations and at-rules consists of (CSS Syntax 3, sections 5.4.4 and 5.4.5).
use Rattle.std.specs.Prelude.{◌≡◌, List, [], ◌∷◌, flat_map, true, false}
use Rattle.std.specs.Option.{is_some}
use Rattle.css_model.specs.Components.{Component, Components, no_components, component}
use Rattle.css_model.specs.inner.Nesting.{followed}
use Rattle.rules_model.specs.ComponentLists.{ends_at_rule, at_keyword_of, is_semicolon}
use Rattle.rules_model.specs.Declarations.{Declaration, declaration_of, is_between_declarations, with_declaration}
use Rattle.rules_laws.specs.Parts.{NonePass}
use Rattle.rules_laws.specs.RuleLists.{BeginsAtRule}

-- what is passed over, a whole at-rule, or what is no at-rule, with its `;`
pub data DeclarationItem : Type 0 where
  between_declarations : Component → DeclarationItem
  at_rule : (keyword : Component) (prelude : Components) (end : Component) → DeclarationItem
  ended : (piece : Components) (semicolon : Component) → DeclarationItem

abbrev pub item_components : DeclarationItem → Components
item_components (between_declarations c) = component c no_components
item_components (at_rule keyword prelude end) =
    component keyword (followed prelude (component end no_components))
item_components (ended piece semicolon) = followed piece (component semicolon no_components)

abbrev pub items_components : List DeclarationItem → Components
items_components [] = no_components
items_components (i ∷ items) = followed (item_components i) (items_components items)

-- a declaration or what stands in its place: it begins, and there is no `;` in it
abbrev pub IsPiece : Components → Type 0
IsPiece no_components = ⊥
IsPiece (component c cs) = (is_between_declarations c ≡ false) × (is_some (at_keyword_of c) ≡ false)
    × NonePass is_semicolon (component c cs)

abbrev pub IsItem : DeclarationItem → Type 0
IsItem (between_declarations c) = is_between_declarations c ≡ true
IsItem (at_rule keyword prelude end) = BeginsAtRule keyword prelude × (ends_at_rule end ≡ true)
IsItem (ended piece semicolon) = IsPiece piece × (is_semicolon semicolon ≡ true)

abbrev pub AreItems : List DeclarationItem → Type 0
AreItems [] = Unit {0}
AreItems (i ∷ items) = IsItem i × AreItems items

-- the declaration of a piece, if it is one
abbrev pub item_declarations : DeclarationItem → List Declaration
item_declarations (ended piece semicolon) = with_declaration (declaration_of piece) []
item_declarations other = []

abbrev pub items_declarations : List DeclarationItem → List Declaration
items_declarations items = flat_map item_declarations items

-- what is left where the list ends: nothing, an at-rule without its end, or a piece without its `;`
pub data DeclarationRest : Type 0 where
  nothing : DeclarationRest
  open_at_rule : (keyword : Component) (prelude : Components) → DeclarationRest
  last : (piece : Components) → DeclarationRest

abbrev pub rest_components : DeclarationRest → Components
rest_components nothing = no_components
rest_components (open_at_rule keyword prelude) = component keyword prelude
rest_components (last piece) = piece

abbrev pub IsRest : DeclarationRest → Type 0
IsRest nothing = Unit {0}
IsRest (open_at_rule keyword prelude) = BeginsAtRule keyword prelude
IsRest (last piece) = IsPiece piece

-- the declaration of what is left, if it is one
abbrev pub rest_declarations : DeclarationRest → List Declaration
rest_declarations (last piece) = with_declaration (declaration_of piece) []
rest_declarations other = []

-- a list of declarations and at-rules: items, and what is left
pub record IsDeclarationList (cs : Components) : Type 0 where
  pub items : List DeclarationItem
  pub rest : DeclarationRest
  pub joined : cs ≡ followed (items_components items) (rest_components rest)
  pub are_items : AreItems items
  pub is_rest : IsRest rest
