-- Declarations: the lists in style blocks and `style` attributes (CSS Syntax 3, sections 5.4.2 and
-- 5.4.4 to 5.4.6).
use Rattle.std.specs.Prelude.{◌==◌, ◌&&◌, ◌||◌, if◌then◌else◌, List, [], ◌∷◌, codes, Option, Some, None, Bool, false}
use Rattle.std.specs.Option.{is_some}
use Rattle.std.specs.Str.{str_eq_ignore_ascii_case}
use Rattle.css_model.specs.declared.token.TokenType.{TokenType}
use Rattle.css_model.specs.declared.token.TokenType.TheVariants.{Ident, Delim}
use Rattle.css_model.specs.Classes.{Text}
use Rattle.css_model.specs.Components.{Component, Components, no_components, component}
use Rattle.rules_model.specs.ComponentLists.{is_token, is_whitespace, is_colon, is_semicolon, ident_of, at_keyword_of, ends_at_rule, before, are_whitespace, trimmed}

-- a declaration: its name, its value without white space at the ends, and whether it is important
pub record Declaration : Type 0 where
  pub name : Text
  pub value : Components
  pub important : Bool

-- ---- `! important`, at the end of a value

-- `!`
abbrev pub is_exclamation_type : TokenType → Bool
is_exclamation_type (Delim c) = c == 33
is_exclamation_type other = false

-- `important`, in any case
abbrev pub is_important_type : TokenType → Bool
is_important_type (Ident name) = str_eq_ignore_ascii_case name (codes "important")
is_important_type other = false

-- perhaps white space, `important`, perhaps white space, and no more
abbrev pub is_important_word : Components → Bool
is_important_word no_components = false
is_important_word (component c cs) =
    if is_whitespace c then is_important_word cs else is_token is_important_type c && are_whitespace cs

-- `!` and such a word
abbrev pub is_important_mark : Components → Bool
is_important_mark no_components = false
is_important_mark (component c cs) = is_token is_exclamation_type c && is_important_word cs

-- the list ends with such a mark
abbrev pub has_important_mark : Components → Bool
has_important_mark no_components = false
has_important_mark (component c cs) = is_important_mark (component c cs) || has_important_mark cs

-- what is before the mark, or all where there is none
abbrev pub before_important_mark : Components → Components
before_important_mark no_components = no_components
before_important_mark (component c cs) =
    if is_important_mark (component c cs) then no_components else component c (before_important_mark cs)

-- ---- a declaration (5.4.6)

-- what is after perhaps white space and a `:`
abbrev pub after_colon : Components → Option Components
after_colon no_components = None
after_colon (component c cs) =
    if is_whitespace c then after_colon cs else if is_colon c then Some cs else None

-- the declaration of this name and what is after its `:`, if it has both
abbrev pub declaration_from : Option Text → Option Components → Option Declaration
declaration_from (Some name) (Some cs) = Some (record {
  name = name;
  value = trimmed (before_important_mark cs);
  important = has_important_mark cs;
})
declaration_from name value = None

-- the declaration that these are: an identifier, perhaps white space, `:`, and the value
abbrev pub declaration_of : Components → Option Declaration
declaration_of no_components = None
declaration_of (component c cs) = declaration_from (ident_of c) (after_colon cs)

-- ---- a list of declarations and at-rules (5.4.4, 5.4.5)

-- what is passed over where a declaration would begin
abbrev pub is_between_declarations : Component → Bool
is_between_declarations c = is_whitespace c || is_semicolon c

-- a declaration in front, if there is one
abbrev pub with_declaration : Option Declaration → List Declaration → List Declaration
with_declaration None declarations = declarations
with_declaration (Some d) declarations = d ∷ declarations

-- the declarations of a list, in their order; each has what is before the next `;`. What is no
-- declaration is dropped so far, and so are at-rules
abbrev mutual
  pub declarations_of : Components → List Declaration
  declarations_of no_components = []
  declarations_of (component c cs) =
      if is_between_declarations c then declarations_of cs
      else if is_some (at_keyword_of c) then declarations_after_at_rule cs
      else with_declaration (declaration_of (before is_semicolon (component c cs))) (declarations_after_semicolon cs)

  -- those after the end of an at-rule
  pub declarations_after_at_rule : Components → List Declaration
  declarations_after_at_rule no_components = []
  declarations_after_at_rule (component c cs) =
      if ends_at_rule c then declarations_of cs else declarations_after_at_rule cs

  -- those after the next `;`
  pub declarations_after_semicolon : Components → List Declaration
  declarations_after_semicolon no_components = []
  declarations_after_semicolon (component c cs) =
      if is_semicolon c then declarations_of cs else declarations_after_semicolon cs
