use Rattle.std.proofs.Common.{◌≡◌, ◌≤◌, length, take}
use Rattle.css_rules.specs.Views.{condition_lists, conditions_at}
use Rattle.request_model.specs.UnbuiltStyles.{any_container}
use Rattle.page_styles.proofs.unbuilt.is_in_container.Given as goal

-- it is asked of those before one
abbrev pub invariant-loop-next : goal.invariant-loop-next
invariant-loop-next l = record {
  same : any_container (conditions_at (condition_lists (take l.within l.conditions)) l.next)
      ≡ any_container (conditions_at (condition_lists l.conditions) l.fn.place);
  bound : l.within ≤ length l.conditions;
}

abbrev pub decreases-loop-next : goal.decreases-loop-next
decreases-loop-next l = l.within
