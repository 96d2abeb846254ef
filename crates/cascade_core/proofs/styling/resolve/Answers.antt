use Rattle.std.proofs.Common.{rules, ◌≡◌, subst, option_map}
use Rattle.std.specs.Option.{option_copied}
use Rattle.custom_model.specs.NamedValues.{value_named}
use Rattle.custom_props.specs.EnvView.{env_view}
use Rattle.custom_props.specs.declared.env.Env.{Env}
use Rattle.prop_table.specs.Styles.{style_view}
use Rattle.cascade_core.specs.StyledView.{styled_view}
use Rattle.cascade_core.specs.inner.Mades.{AreMade}
use Rattle.cascade_core.proofs.StylingParts.{styling-is}
use Rattle.cascade_core.proofs.styling.resolve.Goals as goal

pub returns-clause-style : goal.returns-clause-style
returns-clause-style g c =
    let shared : c.deref.result.now ≡ c.in_ok-env.env.value = search rules in
    styling-is c.args.w.now c.in_ok-made.made (option_map (styled_view {L = g.row.L.Denot}) (option_copied c.args.parent))
    (option_map style_view (option_copied c.style_of_parent.result)) c.args.b.now
    (env_view c.in_ok-env.env.value) (style_view c.in_ok-style.style)
    c.in_ok-env.ensures c.style_of_parent.ensures
    (subst (λ (e : Env). AreMade (value_named (env_view e)) c.args.w.now.all c.in_ok-made.made.all) shared c.in_ok-made.ensures.all)
    (subst (λ (e : Env). AreMade (value_named (env_view e)) c.args.w.now.user_agent c.in_ok-made.made.user_agent) shared
    c.in_ok-made.ensures.user_agent)
    c.in_ok-style.ensures
