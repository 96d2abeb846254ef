use Rattle.custom_props.specs.EnvView.{env_view}
use Rattle.reply_texts.proofs.CustomLines.{appended_line}
use Rattle.reply_texts.proofs.customs.push_custom_lines.Goals as goal

pub loop-place-preserved : goal.loop-place-preserved
loop-place-preserved c =
    appended_line (env_view c.args.env.now) c.loop-place.place c.len-place-end.result _ _ _ c.loop-place-test.true
    c.len-place-end.ensures c.in_ok-push_line_at.ensures c.loop-place.invariant
