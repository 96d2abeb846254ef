use Rattle.std.proofs.Common.{◌≡◌, ◌∙◌, ap, Option, List, option_map, option_and_then, subst, IfOk}
use Rattle.css_tokens.specs.Nested.{components_view}
use Rattle.value_model.specs.Shorthands.{Longhand, each_of_four_values}
use Rattle.value_model.specs.Words.{words_of}
use Rattle.prop_table.specs.Views.{pairs_view}
use Rattle.prop_table.proofs.FourSides.{each_of_four-is}
use Rattle.prop_table.proofs.sides.each_of_four.Goals as goal

pub returns-in-Some : goal.returns-in-Some
returns-in-Some c =
    let s = c.args.sides in
    let is = ap (option_and_then (λ q. each_of_four_values s.top s.right s.bottom s.left q.0 q.1 q.2 q.3)) c.in-Some.ensures.words
    ∙ each_of_four-is s.top s.right s.bottom s.left (words_of (components_view c.args.components.now)) in
    subst (λ (want : Option (List Longhand)). IfOk c.four_values.result (λ ps. option_map pairs_view ps ≡ want)) is c.four_values.ensures
