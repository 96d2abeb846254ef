-- The first blocks were copied.
use Rattle.std.proofs.Common.{◌≡◌, take}
use Rattle.cascade_core.specs.Views.{media_view}
use Rattle.cascade_core.proofs.media.copied.Given as goal

abbrev pub invariant-loop-block : goal.invariant-loop-block
invariant-loop-block l = media_view l.copies ≡ media_view (take l.block-index l.blocks)
