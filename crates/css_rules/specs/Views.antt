-- Which rules and declarations of the definitions these are.
use Rattle.std.specs.Prelude.{ℕ, List, [], ◌∷◌, ◌++◌, map, fold, get_or, Option, Some, None}
use Rattle.css_tokens.specs.Nested.{components_view}
use Rattle.rules_model.specs.Declarations as declarations
use Rattle.rules_model.specs.Rules as rules
use Rattle.css_rules.specs.declared.declaration.Declaration.{Declaration}
use Rattle.css_rules.specs.declared.sheet.Condition.{Condition}
use Rattle.css_rules.specs.declared.sheet.StyleRule.{StyleRule}
use Rattle.css_rules.specs.declared.sheet.Sheet.{Sheet}

abbrev pub declaration_view : Declaration → declarations.Declaration
declaration_view d = record {
  name = d.name;
  value = components_view d.value;
  important = d.important;
}

abbrev pub declarations_view : List Declaration → List declarations.Declaration
declarations_view ds = map declaration_view ds

-- ---- conditions

-- the condition of an at-rule alone
abbrev pub condition_view : Condition → rules.Condition
condition_view c = record { at_rule = c.at_rule; prelude = components_view c.prelude }

-- the conditions up to the one in a place, the outermost first, where these are those of all places
abbrev pub conditions_at : List (List rules.Condition) → Option ℕ → List rules.Condition
conditions_at lists None = []
conditions_at lists (Some place) = get_or lists place []

-- with the conditions up to one more: those around it, which stand before it, and then itself
abbrev pub with_condition : List (List rules.Condition) → Condition → List (List rules.Condition)
with_condition lists c = lists ++ ((conditions_at lists c.around ++ (condition_view c ∷ [])) ∷ [])

-- for each place, the conditions up to the one in it, the outermost first
abbrev pub condition_lists : List Condition → List (List rules.Condition)
condition_lists conditions = fold with_condition [] conditions

-- ---- rules

abbrev pub rule_view : List (List rules.Condition) → StyleRule → rules.StyleRule
rule_view lists r = record {
  prelude = components_view r.prelude;
  conditions = conditions_at lists r.around;
  declarations = declarations_view r.declarations;
}

-- the rules of a sheet, each with the conditions around it
abbrev pub sheet_view : Sheet → List rules.StyleRule
sheet_view s = map (rule_view (condition_lists s.conditions)) s.rules
