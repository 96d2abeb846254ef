-- So far they are those up to each of the first conditions.
use Rattle.std.proofs.Common.{◌≡◌, map, take}
use Rattle.css_rules.specs.Views.{condition_lists}
use Rattle.cascade_model.specs.Books.{media_among}
use Rattle.cascade_core.specs.Views.{media_view}
use Rattle.cascade_core.proofs.media.blocks_of.Given as goal

abbrev pub invariant-loop-condition : goal.invariant-loop-condition
invariant-loop-condition l =
    map media_view l.places ≡ map media_among (condition_lists (take l.condition-index l.conditions))
