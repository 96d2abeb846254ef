use Rattle.std.proofs.Common.{refl}
use Rattle.relayout_requests.specs.Views.{asked_view}
use Rattle.relayout_cli.proofs.ServeLemmas.{turns-begun, turns-carried}
use Rattle.relayout_cli.proofs.serving.answer.Goals as goal

pub returns-in-Ok : goal.returns-in-Ok
returns-in-Ok g c = record {
  turns = turns-carried c.tell.result (asked_view c.args.asked) c.args.state.now c.respond.new.state (g.O.Sink.seen c.args.sink.now) (g.O.Sink.seen c.tell.new.sink) c.args.steps.now c.begin_log.new.steps c.respond.new.steps _
      c.tell.ensures c.begin_log.ensures (rw c.as_str.ensures.value c.in-Ok.ensures.response);
}

pub returns-in-Err : goal.returns-in-Err
returns-in-Err g c = record {
  turns = (turns-begun (asked_view c.args.asked) c.args.steps.now c.begin_log.new.steps c.respond.new.steps c.begin_log.ensures c.in-Err.ensures.begun, refl);
}
