use Rattle.std.proofs.Common.{◌∙◌, ap, Some}
use Rattle.custom_props.proofs.EntriesByPlace.{name-at}
use Rattle.custom_props.proofs.env.Env.name_at.Goals as goal

pub returns : goal.returns
returns c =
    ap Some c.as_str.ensures.characters
    ∙ name-at c.args.self.now.values c.args.i c.in_ok-get.field-0.now c.in_ok-get.ensures.value
