-- Which of two declarations is stronger, whatever they are of.
use Rattle.std.specs.Prelude.{[], not, Bool, true, Option, Some, None}
use Rattle.cascade_model.specs.Kept.{of_custom}
use Rattle.cascade_model.specs.Order as model
use Rattle.cascade_core.specs.AppliedViews.{applied_view}
use Rattle.cascade_core.specs.declared.applied.Applied.{Applied}

abbrev pub is_more_specific : Applied → Applied → Bool
is_more_specific a b = model.is_more_specific (applied_view (of_custom []) a) (applied_view (of_custom []) b)

abbrev pub is_stronger : Applied → Applied → Bool
is_stronger a b = model.is_stronger (applied_view (of_custom []) a) (applied_view (of_custom []) b)

-- a winner yields to a declaration that appears later
abbrev pub yields : Option Applied → Applied → Bool
yields None later = true
yields (Some best) later = not (is_stronger best later)
