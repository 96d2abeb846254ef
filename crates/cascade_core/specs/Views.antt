-- Which rules and declarations of the definitions these are.
use Rattle.std.specs.Prelude.{List, [], ◌∷◌, map, Bool}
use Rattle.conditions_model.specs.MediaQueries.{MediaQuery}
use Rattle.media_conditions.specs.Views.{queries_view}
use Rattle.cascade_model.specs.Books.{BookRule}
use Rattle.cascade_model.specs.Kept as model
use Rattle.cascade_core.specs.declared.kept.Kept.{Kept}
use Rattle.cascade_core.specs.declared.kept.KeptValue.{KeptValue}
use Rattle.cascade_core.specs.declared.kept.KeptValue.TheVariants as kept_values
use Rattle.cascade_core.specs.declared.kept.Target.{Target}
use Rattle.cascade_core.specs.declared.kept.Target.TheVariants as targets
use Rattle.cascade_core.specs.declared.media.MediaBlock.{MediaBlock}
use Rattle.cascade_core.specs.declared.rule_body.RuleBody.{RuleBody}
use Rattle.css_tokens.specs.Nested.{components_view}
use Rattle.prop_table.specs.Views.{value_view}
use Rattle.selectors.specs.Views.{list_view}
use Rattle.selectors.specs.declared.rules.Rule.{Rule}
use Rattle.value_model.specs.declared.prop.Prop.{Prop}

abbrev pub target_view : Target → model.Target
target_view (targets.Property p) = model.of_property p
target_view (targets.Custom name) = model.of_custom name.value

abbrev pub kept_value_view : KeptValue → model.KeptValue
kept_value_view (kept_values.Read v) = model.read (value_view v)
kept_value_view (kept_values.Whole name cs) = model.whole name.value (components_view cs.value)

abbrev pub kept_view : Kept → model.Kept
kept_view k = record {
  target = target_view k.target;
  value = kept_value_view k.value.value;
  important = k.important;
}

-- a declaration of a property
abbrev pub kept_for : model.KeptValue → Bool → Prop → model.Kept
kept_for value important p = record { target = model.of_property p; value = value; important = important }

abbrev pub all_kept_view : List Kept → List model.Kept
all_kept_view ks = map kept_view ks

-- the queries of each `@media` block
abbrev pub media_view : List MediaBlock → List (List MediaQuery)
media_view blocks = map (λ b. queries_view b.queries.value) blocks

-- a rule: its selectors stand in one place, and the rest in another
abbrev pub rule_view : Rule → RuleBody → BookRule
rule_view r body = record {
  origin = body.origin;
  selectors = list_view r.list;
  media = media_view body.media;
  declarations = all_kept_view body.declarations;
}

abbrev pub rules_view : List Rule → List RuleBody → List BookRule
rules_view (r ∷ rules) (body ∷ bodies) = rule_view r body ∷ rules_view rules bodies
rules_view rules bodies = []
