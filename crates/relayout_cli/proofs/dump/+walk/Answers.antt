use Rattle.std.proofs.Common.{rules}
use Rattle.relayout_cli.specs.inner.Frames.{frame_view}
use Rattle.relayout_cli.proofs.WalkLemmas.{AllReach-kids, OnOk-node}
use Rattle.relayout_cli.proofs.dump.+walk.Goals as goal

pub push_boxes-push_children-requires : goal.push_boxes-push_children-requires
push_boxes-push_children-requires t c = (search rules, rw c.children-kids.ensures.children (AllReach-kids c.args.levels c.args.id c.args.doc.now.document.root c.requires c.children-kids.ensures.found))

pub push_boxes-returns-in_ok-push_box-in-Some : goal.push_boxes-returns-in_ok-push_box-in-Some
push_boxes-returns-in_ok-push_box-in-Some t c =
    OnOk-node c.push_children.result _ _ _ c.args.width c.args.levels c.args.id c.args.doc.now.document.root c.in-Some.tag.now (frame_view c.flat.result) c.children-kids.result c.push_children.ensures c.children-kids.ensures.children c.in_ok-push_box-in-Some.ensures c.flat.ensures c.requires c.children-kids.ensures.found c.in-Some.ensures
