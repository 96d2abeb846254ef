use Rattle.std.proofs.Common.{◌∙◌, ◌≡◌, rules, subst, sym, IfOk, Option, true}
use Rattle.css_model.specs.Components.{Components}
use Rattle.css_tokens.specs.Nested.{components_view}
use Rattle.custom_model.specs.References.{has_var}
use Rattle.custom_props.specs.Views.{substituted_view}
use Rattle.custom_props.specs.inner.Entries.{entries_of}
use Rattle.custom_props.proofs.RoomSteps.{substituted_over, substituted_within}
use Rattle.custom_props.proofs.substitution.substitute_known.Goals as goal

pub returns-in-Some : goal.returns-in-Some
returns-in-Some c =
    let var : has_var (components_view c.args.value.now) ≡ true = search rules in
    subst (λ (o : Option Components). IfOk c.substitute_within.result (λ s. substituted_view s ≡ o))
    (substituted_within (entries_of c.args.known.now) (components_view c.args.value.now) _ var
    (sym c.in-Some.is ∙ c.room_after_from.ensures))
    c.substitute_within.ensures

pub returns-in-None : goal.returns-in-None
returns-in-None c =
    let var : has_var (components_view c.args.value.now) ≡ true = search rules in
    substituted_over (entries_of c.args.known.now) (components_view c.args.value.now) var
    (sym c.in-None.is ∙ c.room_after_from.ensures)
