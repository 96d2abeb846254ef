use Rattle.std.proofs.Common.{rules, ◌≡◌, ◌∙◌, ◌∷◌, [], ap, sym, None, option_and_then, option_map}
use Rattle.std.proofs.lemmas.Result.{IfOk-weaker}
use Rattle.std.specs.Option.{option_or}
use Rattle.std.specs.Str.{chars}
use Rattle.cascade_model.specs.Kept as model
use Rattle.css_tokens.specs.Nested.{components_view}
use Rattle.prop_table.specs.Views.{pairs_view}
use Rattle.value_model.specs.Grammar as grammar
use Rattle.value_model.specs.Shorthands as shorthands
use Rattle.cascade_core.proofs.longhands.longhands_of.Goals as goal

pub returns-in-None : goal.returns-in-None
returns-in-None c =
    let name : chars c.as_str.result.now ≡ c.args.name.now = search rules in
    let own : None ≡ option_and_then
    (λ p. option_map (λ v. (p, v) ∷ []) (grammar.value_of p (components_view c.args.value.now)))
    (grammar.property_of_name c.args.name.now) = ap (option_map pairs_view) (sym c.in-None.is) ∙ c.in_ok-longhands.ensures in
    IfOk-weaker c.expand_shorthand.result
    (λ ls. option_map pairs_view ls ≡ option_and_then (λ s. shorthands.expansion_of s (components_view c.args.value.now))
    (shorthands.shorthand_of_name (chars c.as_str.result.now)))
    (λ ls. option_map pairs_view ls ≡ model.longhands_of c.args.name.now (components_view c.args.value.now))
    (λ ls h. h
    ∙ (ap (λ n. option_and_then (λ s. shorthands.expansion_of s (components_view c.args.value.now)) (shorthands.shorthand_of_name n)) name
    ∙ ap (λ o. option_or o (option_and_then (λ s. shorthands.expansion_of s (components_view c.args.value.now))
    (shorthands.shorthand_of_name c.args.name.now))) own))
    c.expand_shorthand.ensures
