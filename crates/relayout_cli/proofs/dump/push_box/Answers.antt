use Rattle.std.proofs.Common.{codes, ◌∷◌, []}
use Rattle.std.specs.Fmt.{decimal, signed_decimal}
use Rattle.reply_model.specs.Spelling.{field}
use Rattle.reply_model.specs.DumpText.{box_line}
use Rattle.relayout_cli.proofs.ReplyLemmas.{OnOk-appended, parts-joined}
use Rattle.relayout_cli.proofs.dump.push_box.Goals as goal

pub returns : goal.returns
unfolding box_line
returns c =
    let frame = c.args.frame.now in
    OnOk-appended c.push_str.result _ _ (10 ∷ []) _ c.push_str.ensures.bytes
    (parts-joined _ _ _ _ _ (codes "box") (field (decimal c.args.id)) (field c.args.tag.now) (field (signed_decimal frame.left)) (field (signed_decimal frame.top))
    (field (signed_decimal frame.width)) (field (signed_decimal frame.height)) (field (signed_decimal frame.content_width)) (field (signed_decimal frame.content_height)) (10 ∷ [])
    c.in_ok-push_head.ensures c.in_ok-push_lengths.ensures c.in_ok-push_lengths-2.ensures c.in_ok-push_lengths-3.ensures)
