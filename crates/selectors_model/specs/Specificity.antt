-- Specificity (Selectors 4, section 17).
use Rattle.std.specs.Prelude.{ℕ, ◌+◌, ◌==◌, min, nat_lt, if◌then◌else◌, Option, Some, None, Bool}
use Rattle.page_model.specs.Document.{Node}
use Rattle.selectors_model.specs.declared.spec.Spec.{Spec}
use Rattle.selectors_model.specs.declared.spec.TheConstants.{MAX_COUNT}
use Rattle.selectors_model.specs.Matching.{matches}
use Rattle.selectors_model.specs.Selectors.{Simple, type_selector, universal, id_selector, class_selector, attribute_present, attribute_value, pseudo_class, nth_pseudo_class, is_pseudo_class, where_pseudo_class, not_pseudo_class, pseudo_element, Compound, no_simples, simple, Selector, compound, combined, SelectorList, no_selectors, selector}

abbrev pub spec : ℕ → ℕ → ℕ → Spec
spec a b c = record { ids = a; classes = b; types = c }

-- ---- sums and order

-- a sum of counts, which stops at the greatest count
abbrev pub count_sum : ℕ → ℕ → ℕ
count_sum m n = min (m + n) MAX_COUNT

abbrev pub spec_sum : Spec → Spec → Spec
spec_sum a b =
    spec (count_sum a.ids b.ids) (count_sum a.classes b.classes) (count_sum a.types b.types)

-- ids are compared first, then classes, then types
abbrev pub is_less_spec : Spec → Spec → Bool
is_less_spec a b =
    if a.ids == b.ids
    then if a.classes == b.classes then nat_lt a.types b.types else nat_lt a.classes b.classes
    else nat_lt a.ids b.ids

-- the more specific of two
abbrev pub greater_spec : Spec → Spec → Spec
greater_spec a b = if is_less_spec a b then b else a

-- ---- of selectors

abbrev mutual
  pub simple_specificity : Simple → Spec
  simple_specificity (type_selector name) = spec 0 0 1
  simple_specificity universal = spec 0 0 0
  simple_specificity (id_selector id) = spec 1 0 0
  simple_specificity (class_selector name) = spec 0 1 0
  simple_specificity (attribute_present name) = spec 0 1 0
  simple_specificity (attribute_value name matcher value) = spec 0 1 0
  simple_specificity (pseudo_class p) = spec 0 1 0
  simple_specificity (nth_pseudo_class nth at) = spec 0 1 0
  simple_specificity (is_pseudo_class list) = greatest_specificity list
  simple_specificity (where_pseudo_class list) = spec 0 0 0
  simple_specificity (not_pseudo_class list) = greatest_specificity list
  simple_specificity pseudo_element = spec 0 0 1

  -- the sum of its simple selectors
  pub compound_specificity : Compound → Spec
  compound_specificity no_simples = spec 0 0 0
  compound_specificity (simple s c) = spec_sum (simple_specificity s) (compound_specificity c)

  -- the sum of its compounds
  pub specificity : Selector → Spec
  specificity (compound c) = compound_specificity c
  specificity (combined s combinator c) = spec_sum (specificity s) (compound_specificity c)

  -- of the most specific member, or 0 where there is none
  pub greatest_specificity : SelectorList → Spec
  greatest_specificity no_selectors = spec 0 0 0
  greatest_specificity (selector s list) = greater_spec (specificity s) (greatest_specificity list)

-- ---- of a list, for an element

-- one more that matches
abbrev pub or_greater : Spec → Option Spec → Option Spec
or_greater a None = Some a
or_greater a (Some b) = Some (greater_spec a b)

-- of the most specific member that matches the element, if one does
abbrev pub matching_specificity : Node → SelectorList → ℕ → Option Spec
matching_specificity root no_selectors i = None
matching_specificity root (selector s list) i =
    if matches root s i then or_greater (specificity s) (matching_specificity root list i)
    else matching_specificity root list i
