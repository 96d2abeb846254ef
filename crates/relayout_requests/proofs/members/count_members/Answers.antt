use Rattle.std.proofs.Common.{◌∙◌}
use Rattle.relayout_requests.proofs.MembersLemmas.{count-members_view}
use Rattle.relayout_requests.proofs.members.count_members.Goals as goal

pub returns-in-Some : goal.returns-in-Some
returns-in-Some c = rw (← c.in-Some.ensures) (c.len.ensures.len ∙ count-members_view c.in-Some.map.now.entries)
