-- What a declaration consists of (CSS Syntax 3, section 5.4.6).
use Rattle.std.specs.Prelude.{◌≡◌, Some, Bool, true, false}
use Rattle.css_model.specs.Components.{Component, Components, component}
use Rattle.css_model.specs.inner.Nesting.{followed}
use Rattle.rules_model.specs.ComponentLists.{are_whitespace, ident_of, is_colon, is_token}
use Rattle.rules_model.specs.Declarations.{Declaration, is_exclamation_type, is_important_type}
use Rattle.rules_laws.specs.Parts.{IsPadded}

-- `!`, perhaps white space, `important`, perhaps white space
pub record IsMark (mark : Components) : Type 0 where
  pub exclamation : Component
  pub between : Components
  pub word : Component
  pub after : Components
  pub joined : mark ≡ component exclamation (followed between (component word after))
  pub is_exclamation : is_token is_exclamation_type exclamation ≡ true
  pub is_word : is_token is_important_type word ≡ true
  pub between_whitespace : are_whitespace between ≡ true
  pub after_whitespace : are_whitespace after ≡ true

-- a value with a mark after it
pub record IsMarked (cs value : Components) : Type 0 where
  pub front : Components
  pub mark : Components
  pub joined : cs ≡ followed front mark
  pub is_mark : IsMark mark
  pub is_value : IsPadded front value

-- what is after a `:` is this value, important or not
abbrev pub IsValue : Components → Components → Bool → Type 0
IsValue cs value true = IsMarked cs value
IsValue cs value false =
    IsPadded cs value × ((front mark : Components) → cs ≡ followed front mark → IsMark mark → ⊥)

-- these are a declaration: a name, perhaps white space, `:`, and a value
pub record IsDeclaration (piece : Components) (d : Declaration) : Type 0 where
  pub ident : Component
  pub between : Components
  pub colon : Component
  pub after : Components
  pub joined : piece ≡ component ident (followed between (component colon after))
  pub names : ident_of ident ≡ Some d.name
  pub between_whitespace : are_whitespace between ≡ true
  pub is_colon : is_colon colon ≡ true
  pub is_value : IsValue after d.value d.important
