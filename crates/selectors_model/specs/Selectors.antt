-- What a selector list is made of (Selectors 4, sections 3 and 4).
use Rattle.css_model.specs.Classes.{Text}
use Rattle.selectors_model.specs.declared.an_plus_b.AnPlusB.{AnPlusB}
use Rattle.selectors_model.specs.declared.attribute_matcher.AttributeMatcher.{AttributeMatcher}
use Rattle.selectors_model.specs.declared.combinator.Combinator.{Combinator}
use Rattle.selectors_model.specs.declared.pseudo_class.PseudoClass.{PseudoClass}
use Rattle.selectors_model.specs.declared.pseudo_class.Nth.{Nth}

-- a simple selector, a compound selector, a complex selector, and a selector list
mutual
  pub data Simple : Type 0 where
    type_selector : (name : Text) → Simple
    universal : Simple
    id_selector : (id : Text) → Simple
    class_selector : (name : Text) → Simple
    attribute_present : (name : Text) → Simple
    attribute_value : (name : Text) (matcher : AttributeMatcher) (value : Text) → Simple
    pseudo_class : PseudoClass → Simple
    nth_pseudo_class : Nth → AnPlusB → Simple
    is_pseudo_class : SelectorList → Simple
    where_pseudo_class : SelectorList → Simple
    not_pseudo_class : SelectorList → Simple
    pseudo_element : Simple

  -- in the order written
  pub data Compound : Type 0 where
    no_simples : Compound
    simple : Simple → Compound → Compound

  -- a compound; or a selector, a combinator and the compound on its right
  pub data Selector : Type 0 where
    compound : Compound → Selector
    combined : Selector → Combinator → Compound → Selector

  -- in the order written
  pub data SelectorList : Type 0 where
    no_selectors : SelectorList
    selector : Selector → SelectorList → SelectorList
