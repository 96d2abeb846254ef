use Rattle.std.proofs.Common.{sym, subst, get_or, take, List, [], ◌∷◌, ℕ, ◌<◌}
use Rattle.custom_props.specs.inner.Graphs.{Marks}
use Rattle.custom_props.proofs.Marking.{in_at, marks_then, take_at}
use Rattle.custom_props.proofs.searches.mark_all.Goals as goal

pub mark-requires : goal.mark-requires
mark-requires c =
    subst (λ (n : ℕ). get_or c.args.places.now c.loop-index.index 0 < n) (sym c.loop-index.invariant.same_length)
    (c.requires (get_or c.args.places.now c.loop-index.index 0)
    (in_at c.args.places.now c.loop-index.index 0 c.loop-index-test.true))

pub loop-index-preserved : goal.loop-index-preserved
loop-index-preserved c =
    subst (λ (ps : List ℕ). Marks ps c.args.marks.now c.args.pending.now c.mark.new.marks c.mark.new.pending)
    (sym (take_at c.args.places.now c.loop-index.index 0 c.loop-index-test.true))
    (marks_then (take c.loop-index.index c.args.places.now) (get_or c.args.places.now c.loop-index.index 0 ∷ []) _ _ _ _ _ _
    c.loop-index.invariant c.in_ok-mark.ensures)
