-- Words of the examples.
use Rattle.std.specs.Prelude.{List, [], ◌∷◌, Option, option_map, option_and_then, is_some, unwrap_or, ℕ, ℤ, Bool}
use Rattle.css_model.specs.Classes.{Text}
use Rattle.page_model.specs.Document.{Node}
use Rattle.selectors_model.specs.AnPlusBs.{an_plus_b_of}
use Rattle.selectors_model.specs.declared.spec.Spec.{Spec}
use Rattle.rules_model.specs.Sheets.{components_of}
use Rattle.selectors_model.specs.TokenTypes.{types_of}
use Rattle.selectors_model.specs.Matching.{matched}
use Rattle.selectors_model.specs.SelectorTexts.{selector_list_of_text}
use Rattle.selectors_model.specs.Selectors.{SelectorList, no_selectors, selector}
use Rattle.selectors_model.specs.Specificity.{specificity, matching_specificity}

-- the selector list of a text
abbrev pub list : Text → Option SelectorList
list text = selector_list_of_text text

-- the text is a selector list
abbrev pub is_list : Text → Bool
is_list text = is_some (list text)

-- A and B of a text
abbrev pub an_plus_b : Text → Option (ℤ × ℤ)
an_plus_b text = option_map (λ at. (at.step, at.offset)) (an_plus_b_of (types_of (components_of text)))

-- the ids of the elements that a text matches
abbrev pub matched_by : Node → Text → Option (List ℕ)
matched_by root text = option_map (λ l. matched l root) (list text)

-- three counts
abbrev pub counts : Spec → ℕ × (ℕ × ℕ)
counts s = (s.ids, (s.classes, s.types))

abbrev pub specificities : SelectorList → List (ℕ × (ℕ × ℕ))
specificities no_selectors = []
specificities (selector s l) = counts (specificity s) ∷ specificities l

-- the specificity of each member of a text
abbrev pub specificity_of : Text → List (ℕ × (ℕ × ℕ))
specificity_of text = unwrap_or (option_map specificities (list text)) []

-- that of the most specific member that matches an element
abbrev pub specificity_for : Node → ℕ → Text → Option (ℕ × (ℕ × ℕ))
specificity_for root i text =
    option_map counts (option_and_then (λ l. matching_specificity root l i) (list text))
