-- The rules up to one were added.
use Rattle.std.proofs.Common.{map, take}
use Rattle.cascade_core.specs.Views.{media_view}
use Rattle.cascade_core.specs.inner.Drafts.{Adds, book_rules_of}
use Rattle.cascade_core.proofs.draft.add_rules.Given as goal

abbrev pub invariant-loop-rule : goal.invariant-loop-rule
invariant-loop-rule l =
    Adds l.fn.draft l.draft (book_rules_of l.origin (map media_view l.places) (take l.rule-index l.rules))
    l.rule-index
