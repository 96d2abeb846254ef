use Rattle.std.proofs.Common.{◌∙◌, ap, map, List}
use Rattle.cascade_core.specs.Views.{media_view}
use Rattle.cascade_core.specs.declared.media.MediaBlock.{MediaBlock}
use Rattle.cascade_core.specs.inner.Media.{media_at}
use Rattle.cascade_core.proofs.MediaPlaces.{place-more}
use Rattle.cascade_core.proofs.media.blocks_of.Goals as goal

pub loop-condition-preserved : goal.loop-condition-preserved
loop-condition-preserved c =
    place-more c.args.conditions.now c.loop-condition.condition-index c.condition-item.result c.loop-condition.places
    c.push.new.self c.in_ok-outside.outside c.in_ok-inside.field-0 c.loop-condition-test.true c.condition-item.is
    c.loop-condition.invariant
    (c.in_ok-outside.ensures
    ∙ ap (λ (places : List (List MediaBlock)). media_at (map media_view places) c.condition-item.result.around) c.as_slice.ensures)
    c.in_ok-inside.ensures c.in_ok-push.ensures.ok
