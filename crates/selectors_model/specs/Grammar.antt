-- Which selector list component values spell (Selectors 4, sections 3.9, 4 and 18).
use Rattle.std.specs.Prelude.{ℕ, ◌==◌, ◌&&◌, if◌then◌else◌, List, [], ◌∷◌, map, codes, nat_lt, Option, Some, None, option_map, option_and_then, unwrap_or, Bool, true, false}
use Rattle.std.specs.Map.{lookup}
use Rattle.std.specs.Str.{str_eq_ignore_ascii_case}
use Rattle.css_model.specs.declared.token.Bracket.TheVariants.{Square}
use Rattle.css_model.specs.declared.token.TheConstants.{MAX_NESTING}
use Rattle.css_model.specs.declared.token.TokenType.{TokenType}
use Rattle.css_model.specs.declared.token.TokenType.TheVariants.{Ident, Function, Hash, Delim, Whitespace, Colon, Comma, Opening}
use Rattle.css_model.specs.Classes.{Text, plus, full_stop}
use Rattle.css_model.specs.Components.{Component, preserved, simple_block, function_block, Components, no_components, component, depths}
use Rattle.selectors_model.specs.declared.combinator.Combinator.{Combinator}
use Rattle.selectors_model.specs.declared.combinator.Combinator.TheVariants.{Descendant, Child, NextSibling, SubsequentSibling}
use Rattle.selectors_model.specs.AnPlusBs.{an_plus_b_of}
use Rattle.selectors_model.specs.TokenTypes.{types_of}
use Rattle.selectors_model.specs.AttributeSelectors.{attribute_of}
use Rattle.selectors_model.specs.PseudoNames.{named, pseudo_class_of, nth_pseudo_classes, is_one_colon_pseudo_element, is_pseudo_element, is_webkit_pseudo_element}
use Rattle.selectors_model.specs.Selectors.{Simple, type_selector, universal, id_selector, class_selector, pseudo_class, nth_pseudo_class, is_pseudo_class, where_pseudo_class, not_pseudo_class, pseudo_element, Compound, no_simples, simple, Selector, compound, combined, SelectorList, no_selectors, selector}

-- ---- what a component is in a selector

-- white space, `,`, a combinator, `.`, `:`, `*`, an identifier; a simple selector by itself, `#id` or
-- `[..]`; a function, and the pseudo-class that it is after a `:`; or what is in no selector
pub data Atom : Type 0 where
  white : Atom
  comma : Atom
  combinator : Combinator → Atom
  dot : Atom
  colon : Atom
  star : Atom
  word : Text → Atom
  whole : Simple → Atom
  function : (name : Text) → Option Simple → Atom
  other : Atom

abbrev pub is_white : Atom → Bool
is_white white = true
is_white a = false

abbrev pub is_comma : Atom → Bool
is_comma comma = true
is_comma a = false

-- part of a compound, or of none
abbrev pub is_in_compound : Atom → Bool
is_in_compound white = false
is_in_compound comma = false
is_in_compound (combinator c) = false
is_in_compound a = true

-- the simple selector by itself, if it is one
abbrev pub whole_if : Option Simple → Atom
whole_if (Some s) = whole s
whole_if None = other

abbrev pub delims : List (ℕ × Atom)
delims =
    (full_stop, dot)
    ∷ (42, star)
    ∷ (62, combinator Child)
    ∷ (plus, combinator NextSibling)
    ∷ (126, combinator SubsequentSibling)
    ∷ []

-- what a token is by itself
abbrev pub atom_of_type : TokenType → Atom
atom_of_type Whitespace = white
atom_of_type Comma = comma
atom_of_type Colon = colon
atom_of_type (Ident name) = word name
atom_of_type (Hash name is_id) = if is_id then whole (id_selector name) else other
atom_of_type (Delim c) = unwrap_or (lookup (λ d. c == d) delims) other
atom_of_type token_type = other

-- ---- compounds (sections 3.1 and 18)

abbrev pub in_front : Option Simple → Option Compound → Option Compound
in_front (Some s) (Some c) = Some (simple s c)
in_front s c = None

-- a pseudo-element, where nothing is after it
abbrev pub last_pseudo_element : Bool → List Atom → Option Compound
last_pseudo_element true [] = Some (simple pseudo_element no_simples)
last_pseudo_element is_known atoms = None

-- simple selectors other than types, and perhaps a pseudo-element at the end
abbrev pub subclasses_of : List Atom → Option Compound
subclasses_of [] = Some no_simples
subclasses_of (whole s ∷ atoms) = in_front (Some s) (subclasses_of atoms)
subclasses_of (dot ∷ word name ∷ atoms) = in_front (Some (class_selector name)) (subclasses_of atoms)
subclasses_of (colon ∷ word name ∷ atoms) =
    if is_one_colon_pseudo_element name then last_pseudo_element true atoms
    else in_front (option_map (λ p. pseudo_class p) (pseudo_class_of name)) (subclasses_of atoms)
subclasses_of (colon ∷ function name s ∷ atoms) = in_front s (subclasses_of atoms)
subclasses_of (colon ∷ colon ∷ word name ∷ atoms) = last_pseudo_element (is_pseudo_element name) atoms
subclasses_of (colon ∷ colon ∷ function name s ∷ atoms) =
    last_pseudo_element (is_webkit_pseudo_element name) atoms
subclasses_of atoms = None

-- perhaps a type or `*`, and then others; at least one in all
abbrev pub compound_of : List Atom → Option Compound
compound_of [] = None
compound_of (word name ∷ atoms) = in_front (Some (type_selector name)) (subclasses_of atoms)
compound_of (star ∷ atoms) = in_front (Some universal) (subclasses_of atoms)
compound_of (a ∷ atoms) = subclasses_of (a ∷ atoms)

-- ---- complex selectors (sections 15 and 18)

abbrev pub begins_compound : List Atom → Bool
begins_compound [] = false
begins_compound (a ∷ atoms) = is_in_compound a

-- white space between two compounds is the descendant combinator; all other white space is nothing.
-- The Bool: a compound is right before, perhaps with white space between
abbrev pub with_descendants : Bool → List Atom → List Atom
with_descendants after_compound [] = []
with_descendants after_compound (a ∷ atoms) =
    if is_white a
    then if after_compound && begins_compound atoms
    then combinator Descendant ∷ with_descendants false atoms
    else with_descendants after_compound atoms
    else a ∷ with_descendants (is_in_compound a) atoms

-- the atoms before the first combinator, and after each combinator those before the next
pub record Chain : Type 0 where
  pub first : List Atom
  pub links : List (Combinator × List Atom)

abbrev pub after_atom : Atom → Chain → Chain
after_atom (combinator c) chain = record { first = []; links = (c, chain.first) ∷ chain.links }
after_atom a chain = record { first = a ∷ chain.first; links = chain.links }

abbrev pub chain_of : List Atom → Chain
chain_of [] = record { first = []; links = [] }
chain_of (a ∷ atoms) = after_atom a (chain_of atoms)

-- one more combinator and compound on the right
abbrev pub followed_by : Option Selector → Combinator → Option Compound → Option Selector
followed_by (Some s) c (Some d) = Some (combined s c d)
followed_by s c d = None

abbrev pub followed_by_all : Option Selector → List (Combinator × List Atom) → Option Selector
followed_by_all s [] = s
followed_by_all s (link ∷ links) = followed_by_all (followed_by s link.0 (compound_of link.1)) links

-- the selector of compounds and the combinators between them
abbrev pub selector_of_chain : Chain → Option Selector
selector_of_chain chain =
    followed_by_all (option_map (λ c. compound c) (compound_of chain.first)) chain.links

-- ---- lists (sections 4.1 and 18)

-- an atom in front of the first of the lists
abbrev pub in_first : Atom → List (List Atom) → List (List Atom)
in_first a [] = (a ∷ []) ∷ []
in_first a (atoms ∷ lists) = (a ∷ atoms) ∷ lists

-- the lists before, between and after the commas
abbrev pub between_commas : List Atom → List (List Atom)
between_commas [] = [] ∷ []
between_commas (a ∷ atoms) =
    if is_comma a then [] ∷ between_commas atoms else in_first a (between_commas atoms)

-- the members of a list, each a selector or invalid
abbrev pub members_of : List Atom → List (Option Selector)
members_of atoms = map (λ m. selector_of_chain (chain_of m)) (between_commas (with_descendants false atoms))

-- a member in front of a list, where both are valid
abbrev pub in_front_of_list : Option Selector → Option SelectorList → Option SelectorList
in_front_of_list (Some s) (Some list) = Some (selector s list)
in_front_of_list s list = None

-- the list of all members, if each is valid
abbrev pub list_of_all : List (Option Selector) → Option SelectorList
list_of_all [] = Some no_selectors
list_of_all (s ∷ members) = in_front_of_list s (list_of_all members)

abbrev pub with_valid : Option Selector → SelectorList → SelectorList
with_valid (Some s) list = selector s list
with_valid None list = list

-- the list of the members that are valid: a forgiving selector list
abbrev pub list_of_valid : List (Option Selector) → SelectorList
list_of_valid [] = no_selectors
list_of_valid (s ∷ members) = with_valid s (list_of_valid members)

-- `[`
abbrev pub is_square_type : TokenType → Bool
is_square_type (Opening Square) = true
is_square_type token_type = false

-- ---- functions (sections 4.2 to 4.4 and 14)

abbrev pub is_pseudo_element_selector : Simple → Bool
is_pseudo_element_selector pseudo_element = true
is_pseudo_element_selector s = false

abbrev pub compound_has_pseudo_element : Compound → Bool
compound_has_pseudo_element no_simples = false
compound_has_pseudo_element (simple s c) =
    if is_pseudo_element_selector s then true else compound_has_pseudo_element c

abbrev pub has_pseudo_element : Selector → Bool
has_pseudo_element (compound c) = compound_has_pseudo_element c
has_pseudo_element (combined s by c) =
    if compound_has_pseudo_element c then true else has_pseudo_element s

-- the selector, if it may stand in a function: no pseudo-element may
abbrev pub in_function : Option Selector → Option Selector
in_function member = option_and_then (λ s. if has_pseudo_element s then None else Some s) member

abbrev pub arguments_of : List Atom → List (Option Selector)
arguments_of atoms = map in_function (members_of atoms)

-- the pseudo-class with this name, in any case, and these contents, as atoms and by their types
abbrev pub functional_pseudo_class : Text → List Atom → List TokenType → Option Simple
functional_pseudo_class name atoms types =
    if str_eq_ignore_ascii_case name (codes "is")
    then Some (is_pseudo_class (list_of_valid (arguments_of atoms)))
    else if str_eq_ignore_ascii_case name (codes "where")
    then Some (where_pseudo_class (list_of_valid (arguments_of atoms)))
    else if str_eq_ignore_ascii_case name (codes "not")
    then option_map (λ list. not_pseudo_class list) (list_of_all (arguments_of atoms))
    else option_and_then (λ nth. option_map (λ at. nth_pseudo_class nth at) (an_plus_b_of types))
    (named nth_pseudo_classes name)

-- what a function is
abbrev pub atom_of_function : TokenType → List Atom → List TokenType → Atom
atom_of_function (Function name) atoms types = function name (functional_pseudo_class name atoms types)
atom_of_function token_type atoms types = other

-- what each component is
abbrev mutual
  pub atom_of : Component → Atom
  atom_of (preserved t) = atom_of_type t.token_type
  atom_of (simple_block head contents close) =
      if is_square_type head.token_type then whole_if (attribute_of (types_of contents)) else other
  atom_of (function_block head contents close) =
      atom_of_function head.token_type (atoms_of contents) (types_of contents)

  pub atoms_of : Components → List Atom
  atoms_of no_components = []
  atoms_of (component c cs) = atom_of c ∷ atoms_of cs

-- ---- the selector list

-- the selector list that components spell, if they spell one
abbrev pub selector_list_of : Components → Option SelectorList
selector_list_of cs = list_of_all (members_of (atoms_of cs))

-- the same, where they do not nest too deep
abbrev pub selector_list_within : Components → Option SelectorList
selector_list_within cs = if nat_lt MAX_NESTING (depths cs) then None else selector_list_of cs
