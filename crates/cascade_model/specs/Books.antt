-- All rules that there are for a page: those of the user agent, and then those of each sheet.
use Rattle.std.specs.Prelude.{List, [], ◌∷◌, ◌++◌, map, filter_map, Option, Some, None, option_map}
use Rattle.std.specs.Str.{chars}
use Rattle.css_model.specs.Classes.{Text}
use Rattle.css_model.specs.Components.{Components}
use Rattle.rules_model.specs.declared.conditional_rule.ConditionalRule.{ConditionalRule}
use Rattle.rules_model.specs.declared.conditional_rule.ConditionalRule.TheVariants.{Media, Container}
use Rattle.rules_model.specs.Rules.{Condition, StyleRule}
use Rattle.rules_model.specs.Sheets.{style_rules_of}
use Rattle.conditions_model.specs.MediaQueries.{MediaQuery, queries_of}
use Rattle.selectors_model.specs.Grammar.{selector_list_of}
use Rattle.selectors_model.specs.Selectors.{SelectorList}
use Rattle.cascade_model.specs.declared.origin.Origin.{Origin}
use Rattle.cascade_model.specs.declared.origin.Origin.TheVariants.{UserAgent, Author}
use Rattle.cascade_model.specs.declared.user_agent.TheConstants.{USER_AGENT_SHEET}
use Rattle.cascade_model.specs.Kept.{Kept, kept_declarations}

-- a rule whose prelude is a selector list
pub record BookRule : Type 0 where
  pub origin : Origin
  pub selectors : SelectorList
  -- the queries of each `@media` block around it, the outermost first
  pub media : List (List MediaQuery)
  pub declarations : List Kept

-- the media queries that a condition asks; `@container` asks none
abbrev pub queries_asked : ConditionalRule → Components → Option (List MediaQuery)
queries_asked Media prelude = Some (queries_of prelude)
queries_asked Container prelude = None

-- those of each `@media` block among conditions, in their order
abbrev pub media_among : List Condition → List (List MediaQuery)
media_among conditions = filter_map (λ c. queries_asked c.at_rule c.prelude) conditions

abbrev pub rule_with : Origin → StyleRule → SelectorList → BookRule
rule_with origin r selectors = record {
  origin = origin;
  selectors = selectors;
  media = media_among r.conditions;
  declarations = kept_declarations r.declarations;
}

-- a rule in front of others, where its prelude is a selector list (Selectors 4, section 3.9: an invalid
-- one makes the rule invalid)
abbrev pub in_front_if : Option BookRule → List BookRule → List BookRule
in_front_if None rules = rules
in_front_if (Some r) rules = r ∷ rules

-- the rules of a sheet, in the order of its text
abbrev pub book_rules : Origin → List StyleRule → List BookRule
book_rules origin [] = []
book_rules origin (r ∷ rules) =
    in_front_if (option_map (rule_with origin r) (selector_list_of r.prelude)) (book_rules origin rules)

abbrev pub author_rules : List (List StyleRule) → List BookRule
author_rules [] = []
author_rules (sheet ∷ sheets) = book_rules Author sheet ++ author_rules sheets

abbrev pub user_agent_rules : List BookRule
user_agent_rules = book_rules UserAgent (style_rules_of (chars USER_AGENT_SHEET.now))

-- the rule book of sheets, each as its rules
abbrev pub book_of : List (List StyleRule) → List BookRule
book_of sheets = user_agent_rules ++ author_rules sheets

-- the same of their texts
abbrev pub book_of_texts : List Text → List BookRule
book_of_texts sheets = book_of (map style_rules_of sheets)
