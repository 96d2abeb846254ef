use Rattle.std.proofs.Common.{ap, min, nat_lt, ◌-◌, ◌^◌, ◌∙◌, ◌≡◌}
use Rattle.page_model.specs.Document.{height}
use Rattle.page_model.specs.declared.limits.TheConstants.{MAX_DEPTH, MAX_NODES}
use Rattle.dom_arena.specs.Reading.{below}
use Rattle.dom_arena.specs.Slots.{cells_of}
use Rattle.dom_arena.specs.Stores.{Kept}
use Rattle.dom_arena.specs.Views.{kept}
use Rattle.dom_arena.proofs.MoveTests.{test-deep}
use Rattle.dom_arena.proofs.move_to.is_too_deep.Goals as goal

pub returns : goal.returns
returns c =
    let k : Kept = kept c.args.store.now in
    let levels : c.height-levels.result ≡ min (height (below (cells_of k.slots) MAX_NODES MAX_DEPTH c.args.at)) (2 ^ 32 - 1) =
    c.height-levels.ensures ∙ ap (λ slots. min (height (below (cells_of slots) MAX_NODES MAX_DEPTH c.args.at)) (2 ^ 32 - 1)) c.as_slice.ensures.value in
    λ x d h l. ap (nat_lt MAX_DEPTH) c.saturating_add.ensures ∙ test-deep k x c.args.at c.args.parent c.level-above.result c.height-levels.result d h (c.level-above.ensures x d l) levels
