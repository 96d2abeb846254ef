use Rattle.std.proofs.Common.{rules, ◌≡◌, ◌∙◌, ◌++◌, ap₂, map}
use Rattle.std.proofs.lemmas.Result.{on_ok_weaker}
use Rattle.css_rules.specs.Views.{declaration_view}
use Rattle.cascade_model.specs.Kept as model
use Rattle.cascade_core.specs.Views.{all_kept_view, kept_for}
use Rattle.cascade_core.proofs.kept.keep_whole.Goals as goal

pub returns : goal.returns
returns c =
    let d = declaration_view c.args.declaration.now in
    let props : c.as_slice.result.now ≡ model.properties_of_name d.name = search rules in
    on_ok_weaker c.keep_for_each.result
    (λ kept. kept
    ∙ ap₂ (λ v ps. all_kept_view c.args.kept.now ++ map (λ p. kept_for v c.args.declaration.now.important p) ps)
    c.in_ok-value.ensures props)
    c.keep_for_each.ensures
