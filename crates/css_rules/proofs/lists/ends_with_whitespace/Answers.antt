use Rattle.std.proofs.Common.{◌∙◌, ◌-◌, length, arith}
use Rattle.rules_model.specs.ComponentLists.{is_whitespace}
use Rattle.css_rules.proofs.Ends.{last-ends}
use Rattle.css_rules.proofs.lists.ends_with_whitespace.Goals as goal

pub returns-in-len1-up : goal.returns-in-len1-up
returns-in-len1-up c =
    c.is_whitespace.ensures ∙ last-ends is_whitespace c.args.components.now
    (length c.args.components.now - 1) c.last-item.result
    (omega (arith, c.in-len1-up.len_at_least)) c.last-item.is
