-- Which elements a selector matches (Selectors 4, sections 3.1, 4 to 6, 14 and 15).
use Rattle.std.specs.Prelude.{ℕ, ◌&&◌, ◌||◌, not, is_none, is_some, List, [], ◌∷◌, ◌++◌, codes, filter, pos, Option, Some, None, Bool, true, false}
use Rattle.std.specs.List.{list_any}
use Rattle.page_model.specs.Document.{Node, Nodes, element, text, no_nodes, node, name_at, parent_in, value_at}
use Rattle.page_model.specs.Trees.{Text}
use Rattle.selectors_model.specs.declared.an_plus_b.AnPlusB.{AnPlusB}
use Rattle.selectors_model.specs.declared.attribute_matcher.AttributeMatcher.{AttributeMatcher}
use Rattle.selectors_model.specs.declared.attribute_matcher.AttributeMatcher.TheVariants.{Equals, Includes}
use Rattle.selectors_model.specs.declared.pseudo_class.Nth.{Nth}
use Rattle.selectors_model.specs.declared.pseudo_class.Nth.TheVariants.{Child, LastChild as NthLastChild, OfType, LastOfType as NthLastOfType}
use Rattle.selectors_model.specs.declared.pseudo_class.PseudoClass.{PseudoClass}
use Rattle.selectors_model.specs.declared.pseudo_class.PseudoClass.TheVariants.{Root, FirstChild, LastChild, OnlyChild, FirstOfType, LastOfType, OnlyOfType, Unmatched}
use Rattle.selectors_model.specs.AnPlusBs.{is_position}
use Rattle.selectors_model.specs.Elements.{is_same_name, left_of, position_of}
use Rattle.selectors_model.specs.Selectors.{Simple, type_selector, universal, id_selector, class_selector, attribute_present, attribute_value, pseudo_class, nth_pseudo_class, is_pseudo_class, where_pseudo_class, not_pseudo_class, pseudo_element, Compound, no_simples, simple, Selector, compound, combined, SelectorList, no_selectors, selector}
use Rattle.selectors_model.specs.Values.{value_matches}

-- the attribute is there, and its value compares so
abbrev pub attribute_matches : AttributeMatcher → Option Text → Text → Bool
attribute_matches matcher None value = false
attribute_matches matcher (Some actual) value = value_matches matcher actual value

-- the element's position is one of these
abbrev pub nth_matches : Nth → AnPlusB → ℕ → Node → Bool
nth_matches nth at i root = is_position at (position_of nth i root)

-- `:nth-child(1)` and its like (14.3.3 and 14.4.3)
abbrev pub is_first : Nth → ℕ → Node → Bool
is_first nth i root = nth_matches nth (record { step = pos 0; offset = pos 1 }) i root

-- what a pseudo-class without arguments matches (sections 14.1, 14.3 and 14.4)
abbrev pub pseudo_class_matches : PseudoClass → ℕ → Node → Bool
pseudo_class_matches Root i root = is_none (parent_in i root)
pseudo_class_matches FirstChild i root = is_first Child i root
pseudo_class_matches LastChild i root = is_first NthLastChild i root
pseudo_class_matches OnlyChild i root = is_first Child i root && is_first NthLastChild i root
pseudo_class_matches FirstOfType i root = is_first OfType i root
pseudo_class_matches LastOfType i root = is_first NthLastOfType i root
pseudo_class_matches OnlyOfType i root = is_first OfType i root && is_first NthLastOfType i root
pseudo_class_matches Unmatched i root = false

-- a selector matches the element with this id in the tree of this root
abbrev mutual
  pub simple_matches : Node → Simple → ℕ → Bool
  simple_matches root (type_selector name) i = is_same_name (name_at i root) (Some name)
  simple_matches root universal i = true
  simple_matches root (id_selector id) i = attribute_matches Equals (value_at (codes "id") i root) id
  simple_matches root (class_selector name) i =
      attribute_matches Includes (value_at (codes "class") i root) name
  simple_matches root (attribute_present name) i = is_some (value_at name i root)
  simple_matches root (attribute_value name matcher value) i =
      attribute_matches matcher (value_at name i root) value
  simple_matches root (pseudo_class p) i = pseudo_class_matches p i root
  simple_matches root (nth_pseudo_class nth at) i = nth_matches nth at i root
  simple_matches root (is_pseudo_class list) i = list_matches root list i
  simple_matches root (where_pseudo_class list) i = list_matches root list i
  simple_matches root (not_pseudo_class list) i = not (list_matches root list i)
  simple_matches root pseudo_element i = false

  -- each of its simple selectors matches
  pub compound_matches : Node → Compound → ℕ → Bool
  compound_matches root no_simples i = true
  compound_matches root (simple s c) i = simple_matches root s i && compound_matches root c i

  -- its last compound matches, and what is on the left of a combinator matches an element there
  pub matches : Node → Selector → ℕ → Bool
  matches root (compound c) i = compound_matches root c i
  matches root (combined s combinator c) i =
      compound_matches root c i && list_any (matches root s) (left_of combinator i root)

  -- one of its members matches
  pub list_matches : Node → SelectorList → ℕ → Bool
  list_matches root no_selectors i = false
  list_matches root (selector s list) i = matches root s i || list_matches root list i

-- the ids of the elements of a tree, in document order
abbrev mutual
  pub elements_of : Node → List ℕ
  elements_of (element id name attributes children) = id ∷ elements_among children
  elements_of (text id cs) = []

  pub elements_among : Nodes → List ℕ
  elements_among no_nodes = []
  elements_among (node n ns) = elements_of n ++ elements_among ns

-- the elements that a list matches, in document order
abbrev pub matched : SelectorList → Node → List ℕ
matched list root = filter (list_matches root list) (elements_of root)
