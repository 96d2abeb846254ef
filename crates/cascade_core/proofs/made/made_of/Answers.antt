use Rattle.std.proofs.Common.{rules, ◌≡◌, ◌∙◌, ap, map, take}
use Rattle.custom_model.specs.NamedValues.{value_named}
use Rattle.custom_props.specs.EnvView.{env_view}
use Rattle.value_model.specs.Properties.{properties}
use Rattle.cascade_core.specs.Tables.{entry}
use Rattle.cascade_core.specs.inner.Mades.{winner_after}
use Rattle.cascade_core.proofs.MadeValues.{made-are}
use Rattle.cascade_core.proofs.made.made_of.Goals as goal

pub returns : goal.returns
returns c =
    let all : take c.loop-prop.prop-index c.all_props-prop-items.result.now ≡ properties = search rules in
    made-are (value_named (env_view c.args.env.now)) c.args.table.now c.loop-prop.made
    (c.loop-prop.invariant
    ∙ ap (map (λ p. winner_after (value_named (env_view c.args.env.now)) p (entry c.args.table.now p))) all)
