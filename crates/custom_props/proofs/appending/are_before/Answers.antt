use Rattle.std.proofs.Common.{rules, ◌≡◌, ◌∙◌, ap}
use Rattle.std.specs.Str.{chars}
use Rattle.page_model.specs.Attributes.{is_less_text}
use Rattle.custom_props.proofs.LastName.{is_before_last_at}
use Rattle.custom_props.proofs.appending.are_before.Goals as goal

pub returns-in-len1-up : goal.returns-in-len1-up
returns-in-len1-up c =
    let less : c.is_less.result ≡ is_less_text c.last-item.result.name (chars c.args.name.now) = search rules in
    less
    ∙ (ap (λ v. is_less_text v.name (chars c.args.name.now)) c.last-item.is
    ∙ is_before_last_at (chars c.args.name.now) c.args.values.now c.last-item.result c.in-len1-up.len_at_least c.requires)
