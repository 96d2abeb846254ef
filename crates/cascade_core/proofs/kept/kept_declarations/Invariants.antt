-- What was kept, and then what is left, is all.
use Rattle.std.proofs.Common.{◌≡◌, ◌++◌, drop}
use Rattle.cascade_core.specs.Views.{all_kept_view}
use Rattle.cascade_model.specs.Kept.{kept_declarations}
use Rattle.css_rules.specs.Views.{declarations_view}
use Rattle.cascade_core.proofs.kept.kept_declarations.Given as goal

abbrev pub invariant-loop-declaration : goal.invariant-loop-declaration
invariant-loop-declaration l =
    kept_declarations (declarations_view l.fn.declarations)
    ≡ all_kept_view l.kept
    ++ kept_declarations (declarations_view (drop l.declaration-index l.declaration-items))
