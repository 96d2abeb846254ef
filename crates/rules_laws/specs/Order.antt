-- The tokens of rules and declarations, and lists with something left out.
use Rattle.std.specs.Prelude.{◌≡◌, ◌⊎◌, List, [], ◌∷◌, ◌++◌, flat_map}
use Rattle.css_model.specs.declared.token.Token.{Token}
use Rattle.css_model.specs.Components.{all_tokens_of}
use Rattle.rules_model.specs.Declarations.{Declaration}
use Rattle.rules_model.specs.Rules.{StyleRule}

-- the first list is the second one with perhaps some of it left out
abbrev pub IsSublist : List Token → List Token → Type 0
IsSublist [] ts = Unit {0}
IsSublist (s ∷ ss) [] = ⊥
IsSublist (s ∷ ss) (t ∷ ts) = ((s ≡ t) × IsSublist ss ts) ⊎ IsSublist (s ∷ ss) ts

-- the tokens of the values of declarations
abbrev pub declared_tokens : List Declaration → List Token
declared_tokens declarations = flat_map (λ d. all_tokens_of d.value) declarations

-- the tokens of preludes, each before those of the values of its declarations
abbrev pub rule_tokens : List StyleRule → List Token
rule_tokens rules = flat_map (λ r. all_tokens_of r.prelude ++ declared_tokens r.declarations) rules
