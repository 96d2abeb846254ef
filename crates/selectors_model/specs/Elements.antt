-- Elements of a document and their relatives, as selectors see them: texts do not count
-- (Selectors 4, sections 3.2, 14 and 15).
use Rattle.std.specs.Prelude.{ℕ, suc, ◌==◌, if◌then◌else◌, List, [], ◌∷◌, ◌++◌, filter, length, Option, Some, None, option_map, option_to_list, unwrap_or, Bool, false}
use Rattle.page_model.specs.Attributes.{is_same_text}
use Rattle.page_model.specs.Document.{Node, element, text, Nodes, no_nodes, node, all_ids, children_of, is_among, name_at, parent_in, parent_of, before}
use Rattle.page_model.specs.Trees.{Text}
use Rattle.selectors_model.specs.declared.combinator.Combinator.{Combinator}
use Rattle.selectors_model.specs.declared.combinator.Combinator.TheVariants.{Descendant, Child, NextSibling, SubsequentSibling}
use Rattle.selectors_model.specs.declared.pseudo_class.Nth.{Nth}
use Rattle.selectors_model.specs.declared.pseudo_class.Nth.TheVariants.{Child as NthChild, LastChild as NthLastChild, OfType as NthOfType, LastOfType as NthLastOfType}

-- ---- ancestors

-- the elements below which the node with this id is, the outermost first
abbrev mutual
  pub ancestors_of : ℕ → Node → List ℕ
  ancestors_of i (element id name attributes children) =
      if is_among i (all_ids children) then id ∷ ancestors_among i children else []
  ancestors_of i (text id cs) = []

  pub ancestors_among : ℕ → Nodes → List ℕ
  ancestors_among i no_nodes = []
  ancestors_among i (node n ns) = ancestors_of i n ++ ancestors_among i ns

-- ---- siblings

-- the ids of the elements among these nodes
abbrev pub element_ids : Nodes → List ℕ
element_ids no_nodes = []
element_ids (node (element id name attributes children) ns) = id ∷ element_ids ns
element_ids (node (text id cs) ns) = element_ids ns

-- the element and its siblings, in document order; the root is alone
abbrev pub siblings_of : ℕ → Node → List ℕ
siblings_of i root =
    unwrap_or (option_map (λ p. element_ids (children_of p)) (parent_in i root)) (i ∷ [])

-- both are names, and the same
abbrev pub is_same_name : Option Text → Option Text → Bool
is_same_name (Some name) (Some other) = is_same_text name other
is_same_name name other = false

-- those of the siblings that have the element's own name
abbrev pub siblings_of_type : ℕ → Node → List ℕ
siblings_of_type i root = filter (λ j. is_same_name (name_at i root) (name_at j root)) (siblings_of i root)

-- what is before an id in a list, and what is after it
abbrev pub all_before : ℕ → List ℕ → List ℕ
all_before i [] = []
all_before i (j ∷ js) = if i == j then [] else j ∷ all_before i js

abbrev pub all_after : ℕ → List ℕ → List ℕ
all_after i [] = []
all_after i (j ∷ js) = if i == j then js else all_after i js

-- ---- positions (sections 14.3 and 14.4)

-- the element's position among its siblings, from 1, as each pseudo-class counts
abbrev pub position_of : Nth → ℕ → Node → ℕ
position_of NthChild i root = suc (length (all_before i (siblings_of i root)))
position_of NthLastChild i root = suc (length (all_after i (siblings_of i root)))
position_of NthOfType i root = suc (length (all_before i (siblings_of_type i root)))
position_of NthLastOfType i root = suc (length (all_after i (siblings_of_type i root)))

-- ---- combinators (section 15)

-- the elements that may be on the left of a combinator where this one is on its right
abbrev pub left_of : Combinator → ℕ → Node → List ℕ
left_of Descendant i root = ancestors_of i root
left_of Child i root = option_to_list (parent_of i root)
left_of NextSibling i root = option_to_list (before i None (siblings_of i root))
left_of SubsequentSibling i root = all_before i (siblings_of i root)
