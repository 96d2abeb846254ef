-- Words of the examples: rules and declarations with the spellings of their components.
use Rattle.std.specs.Prelude.{List, map, flat_map, Bool}
use Rattle.css_model.specs.Classes.{Text}
use Rattle.css_model.specs.Components.{Components, all_tokens_of}
use Rattle.rules_model.specs.declared.conditional_rule.ConditionalRule.{ConditionalRule}
use Rattle.rules_model.specs.Declarations.{Declaration, declarations_of}
use Rattle.rules_model.specs.PreludeText.{prelude_text}
use Rattle.rules_model.specs.Rules.{Condition, StyleRule}
use Rattle.rules_model.specs.Sheets.{components_of, style_rules_of, style_attr_of}

-- components as they are spelled
abbrev pub spelled : Components → Text
spelled cs = flat_map (λ t. t.spelling) (all_tokens_of cs)

-- the name and the value, and whether it is important
abbrev pub SpelledDeclaration : Type 0
SpelledDeclaration = Text × (Text × Bool)

abbrev pub spelled_declaration : Declaration → SpelledDeclaration
spelled_declaration d = (d.name, (spelled d.value, d.important))

abbrev pub spelled_condition : Condition → ConditionalRule × Text
spelled_condition c = (c.at_rule, spelled c.prelude)

-- a rule as it is spelled
pub record SpelledRule : Type 0 where
  pub prelude : Text
  pub conditions : List (ConditionalRule × Text)
  pub declarations : List SpelledDeclaration

abbrev pub spelled_rule : StyleRule → SpelledRule
spelled_rule r = record {
  prelude = spelled r.prelude;
  conditions = map spelled_condition r.conditions;
  declarations = map spelled_declaration r.declarations;
}

-- the rules of a sheet
abbrev pub sheet : Text → List SpelledRule
sheet text = map spelled_rule (style_rules_of text)

-- the preludes of the rules of a sheet
abbrev pub preludes : Text → List Text
preludes text = map (λ r. spelled r.prelude) (style_rules_of text)

-- the conditions around each rule of a sheet
abbrev pub conditions : Text → List (List (ConditionalRule × Text))
conditions text = map (λ r. map spelled_condition r.conditions) (style_rules_of text)

-- the declarations of a style block
abbrev pub block : Text → List SpelledDeclaration
block text = map spelled_declaration (declarations_of (components_of text))

-- the declarations of a `style` attribute
abbrev pub style_attr : Text → List SpelledDeclaration
style_attr text = map spelled_declaration (style_attr_of text)

-- how replies print the preludes of a sheet
abbrev pub printed_preludes : Text → List Text
printed_preludes text = map (λ r. prelude_text r.prelude) (style_rules_of text)
