-- The answer is that of the blocks that are left.
use Rattle.std.proofs.Common.{◌≡◌, drop}
use Rattle.cascade_model.specs.Answers as model
use Rattle.cascade_core.specs.Views.{media_view}
use Rattle.cascade_core.proofs.answering.answer_to.Given as goal

abbrev pub invariant-loop-block : goal.invariant-loop-block
invariant-loop-block l =
    model.answer_to l.v (media_view l.media) ≡ model.answer_to l.v (media_view (drop l.block-index l.media))
