-- The declarations that apply to an element (CSS Cascade 4, section 4.1).
use Rattle.std.specs.Prelude.{ℕ, List, [], ◌∷◌, ◌++◌, map, Option, Some, None, Bool, true, false}
use Rattle.page_model.specs.Document.{Node}
use Rattle.conditions_model.specs.declared.tri.Tri.{Tri}
use Rattle.conditions_model.specs.declared.tri.Tri.TheVariants.{Yes, No, Unknown}
use Rattle.selectors_model.specs.declared.spec.Spec.{Spec}
use Rattle.selectors_model.specs.Specificity.{spec, matching_specificity}
use Rattle.cascade_model.specs.declared.origin.Origin.{Origin}
use Rattle.cascade_model.specs.declared.origin.Origin.TheVariants.{Author}
use Rattle.cascade_model.specs.Books.{BookRule}
use Rattle.cascade_model.specs.Kept.{Kept, KeptValue, Target}

-- a rule that matches an element, and the specificity of its most specific selector that does
pub record MatchedRule : Type 0 where
  pub rule : BookRule
  pub specificity : Spec

abbrev pub in_front_of_matched : BookRule → Option Spec → List MatchedRule → List MatchedRule
in_front_of_matched r None matched = matched
in_front_of_matched r (Some s) matched = record { rule = r; specificity = s } ∷ matched

-- the rules that match, in their order
abbrev pub matched_rules : Node → ℕ → List BookRule → List MatchedRule
matched_rules root i [] = []
matched_rules root i (r ∷ rules) =
    in_front_of_matched r (matching_specificity root r.selectors i) (matched_rules root i rules)

-- a declaration that applies to an element
pub record Applied : Type 0 where
  pub origin : Origin
  pub important : Bool
  -- it stands in the element's `style` attribute
  pub in_attribute : Bool
  -- of the rule that it stands in
  pub specificity : Spec
  pub target : Target
  pub value : KeptValue

abbrev pub applied_in_rule : MatchedRule → Kept → Applied
applied_in_rule m k = record {
  origin = m.rule.origin;
  important = k.important;
  in_attribute = false;
  specificity = m.specificity;
  target = k.target;
  value = k.value;
}

abbrev pub applied_in_attribute : Kept → Applied
applied_in_attribute k = record {
  origin = Author;
  important = k.important;
  in_attribute = true;
  specificity = spec 0 0 0;
  target = k.target;
  value = k.value;
}

abbrev pub applied_in_rules : List MatchedRule → List Applied
applied_in_rules [] = []
applied_in_rules (m ∷ matched) = map (applied_in_rule m) m.rule.declarations ++ applied_in_rules matched

-- the matched rules whose conditions are all Yes, where these are the answers to the conditions of each
abbrev pub answered : List MatchedRule → List Tri → List MatchedRule
answered (m ∷ matched) (Yes ∷ answers) = m ∷ answered matched answers
answered (m ∷ matched) (No ∷ answers) = answered matched answers
answered (m ∷ matched) (Unknown ∷ answers) = answered matched answers
answered matched answers = []

-- the declarations of the rules that apply and then those of the `style` attribute, in order of
-- appearance
abbrev pub applied_of : List MatchedRule → List Tri → List Kept → List Applied
applied_of matched answers inline =
    applied_in_rules (answered matched answers) ++ map applied_in_attribute inline
