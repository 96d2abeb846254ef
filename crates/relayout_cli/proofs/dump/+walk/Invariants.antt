use Rattle.std.proofs.Common.{◌≡◌, ◌+◌, ◌*◌, ◌++◌, string_bytes}
use Rattle.std.specs.Prelude.{pos}
use Rattle.reply_model.specs.DumpText.{all_box_lines}
use Rattle.relayout_cli.specs.inner.Walk.{nodes_at, AllReach}
use Rattle.relayout_cli.specs.inner.Flat.{all_flat}
use Rattle.relayout_cli.proofs.dump.+walk.Given as goal

abbrev pub decreases-push_boxes : goal.decreases-push_boxes
decreases-push_boxes l = 2 * l.levels

-- the lines so far and those of the rest are those of all
abbrev pub invariant-push_children-loop-kid : goal.invariant-push_children-loop-kid
invariant-push_children-loop-kid l = record {
  told : string_bytes l.reply ++ all_box_lines (all_flat l.width) (pos 0) (pos 0) (nodes_at l.kid-iterator l.doc.document.root) ≡ string_bytes l.fn.reply ++ all_box_lines (all_flat l.width) (pos 0) (pos 0) (nodes_at l.fn.kids l.doc.document.root);
  reach : AllReach l.levels l.kid-iterator l.doc.document.root;
}

abbrev pub decreases-push_children : goal.decreases-push_children
decreases-push_children l = 2 * l.levels + 1
