use Rattle.std.proofs.Common.{ap, false, rules, slice_get, true, ◌-◌, ◌∙◌, ◌≡◌}
use Rattle.dom_arena.specs.Moving.{leads_to}
use Rattle.dom_arena.specs.Slots.{child_number, target, up_link}
use Rattle.dom_arena.specs.Stores.{Kept}
use Rattle.dom_arena.specs.Views.{kept}
use Rattle.dom_arena.proofs.MoveTests.{count-child, count-other}
use Rattle.dom_arena.proofs.move_to.children_without.Goals as goal

pub returns-then-is_child : goal.returns-then-is_child
returns-then-is_child c =
    let k : Kept = kept c.args.store.now in
    let up : leads_to c.args.parent (target (up_link (slice_get k.slots c.args.at))) ≡ true = search rules in
    let count : c.children_of-count.result.1 ≡ child_number (slice_get k.slots c.args.parent) = search rules in
    λ x d h l other out. c.saturating_sub.ensures ∙ (ap (λ n. n - 1) count ∙ count-child k x c.args.at c.args.parent d h l other out up)

pub returns-else-is_child : goal.returns-else-is_child
returns-else-is_child c =
    let k : Kept = kept c.args.store.now in
    let up : leads_to c.args.parent (target (up_link (slice_get k.slots c.args.at))) ≡ false = search rules in
    let count : c.children_of-count.result.1 ≡ child_number (slice_get k.slots c.args.parent) = search rules in
    λ x d h l other out. count ∙ count-other k x c.args.at c.args.parent d h l other out up
