use Rattle.relayout_cli.specs.Runs.{setting_of}
use Rattle.relayout_requests.specs.Views.{asked_view}
use Rattle.relayout_cli.proofs.ServeLemmas.{Serving-start, Serving-more, ends-new, ends-done, ends-failed, ends-spent, ends-unread, ends-cut, ends-unanswered}
use Rattle.relayout_cli.proofs.serving.serve.Goals as goal

pub script-init : goal.script-init
script-init g c = rw c.in-Ok.ensures (Serving-start (setting_of c.args.profile) (record { source = g.I.Source.seen c.args.source.now; sink = g.O.Sink.seen c.args.sink.now; ledger = c.args.steps.now }))

pub returns-in-Err : goal.returns-in-Err
returns-in-Err g c = record { serves = ends-new (setting_of c.args.profile) (record { source = g.I.Source.seen c.args.source.now; sink = g.O.Sink.seen c.args.sink.now; ledger = c.args.steps.now }) }

pub script-preserved : goal.script-preserved
script-preserved g c =
    Serving-more (setting_of c.args.profile) (record { source = g.I.Source.seen c.args.source.now; sink = g.O.Sink.seen c.args.sink.now; ledger = c.args.steps.now })
    (record { source = g.I.Source.seen c.script.source; sink = g.O.Sink.seen c.script.sink; ledger = c.script.steps })
    (record { source = g.I.Source.seen c.read.new.source; sink = g.O.Sink.seen c.answer.new.sink; ledger = c.answer.new.steps })
    c.script.reader c.read.new.reader c.script.state c.answer.new.state (asked_view c.in-Asks.asked) c.script.invariant c.in-Asks.ensures.comes c.read.ensures.reads_on c.in-Answered.ensures.turns

pub returns-in-Failed-answer : goal.returns-in-Failed-answer
returns-in-Failed-answer g c = record {
  serves = ends-cut (setting_of c.args.profile) (record { source = g.I.Source.seen c.args.source.now; sink = g.O.Sink.seen c.args.sink.now; ledger = c.args.steps.now })
      (record { source = g.I.Source.seen c.script.source; sink = g.O.Sink.seen c.script.sink; ledger = c.script.steps })
      (record { source = g.I.Source.seen c.read.new.source; sink = g.O.Sink.seen c.answer.new.sink; ledger = c.answer.new.steps })
      c.script.reader c.read.new.reader c.script.state c.answer.new.state (asked_view c.in-Asks.asked) c.script.invariant c.in-Asks.ensures.comes c.read.ensures.reads_on c.in-Failed-answer.ensures.turns;
}

pub returns-in-NoMemory-answer : goal.returns-in-NoMemory-answer
returns-in-NoMemory-answer g c = record {
  serves = ends-unanswered (setting_of c.args.profile) (record { source = g.I.Source.seen c.args.source.now; sink = g.O.Sink.seen c.args.sink.now; ledger = c.args.steps.now })
      (record { source = g.I.Source.seen c.script.source; sink = g.O.Sink.seen c.script.sink; ledger = c.script.steps })
      (record { source = g.I.Source.seen c.read.new.source; sink = g.O.Sink.seen c.answer.new.sink; ledger = c.answer.new.steps })
      c.script.reader c.read.new.reader c.script.state (asked_view c.in-Asks.asked) c.script.invariant c.in-Asks.ensures.comes c.read.ensures.reads_on c.in-NoMemory-answer.ensures.turns;
}

pub returns-in-End : goal.returns-in-End
returns-in-End g c = record {
  serves = ends-done (setting_of c.args.profile) (record { source = g.I.Source.seen c.args.source.now; sink = g.O.Sink.seen c.args.sink.now; ledger = c.args.steps.now })
      (record { source = g.I.Source.seen c.script.source; sink = g.O.Sink.seen c.script.sink; ledger = c.script.steps }) (g.I.Source.seen c.read.new.source)
      c.script.reader c.read.new.reader c.script.state c.script.invariant c.read.ensures.reads_on c.in-End.ensures.comes;
}

pub returns-in-Failed : goal.returns-in-Failed
returns-in-Failed g c = record {
  serves = ends-failed (setting_of c.args.profile) (record { source = g.I.Source.seen c.args.source.now; sink = g.O.Sink.seen c.args.sink.now; ledger = c.args.steps.now })
      (record { source = g.I.Source.seen c.script.source; sink = g.O.Sink.seen c.script.sink; ledger = c.script.steps }) (g.I.Source.seen c.read.new.source)
      c.script.reader c.read.new.reader c.script.state c.script.invariant c.read.ensures.reads_on c.in-Failed.ensures.comes;
}

pub returns-in-Spent : goal.returns-in-Spent
returns-in-Spent g c = record {
  serves = ends-spent (setting_of c.args.profile) (record { source = g.I.Source.seen c.args.source.now; sink = g.O.Sink.seen c.args.sink.now; ledger = c.args.steps.now })
      (record { source = g.I.Source.seen c.script.source; sink = g.O.Sink.seen c.script.sink; ledger = c.script.steps }) (g.I.Source.seen c.read.new.source)
      c.script.reader c.read.new.reader c.script.state c.script.invariant c.read.ensures.reads_on c.in-Spent.ensures.comes;
}

pub returns-in-NoMemory : goal.returns-in-NoMemory
returns-in-NoMemory g c = record {
  serves = ends-unread (setting_of c.args.profile) (record { source = g.I.Source.seen c.args.source.now; sink = g.O.Sink.seen c.args.sink.now; ledger = c.args.steps.now })
      (record { source = g.I.Source.seen c.script.source; sink = g.O.Sink.seen c.script.sink; ledger = c.script.steps }) (g.I.Source.seen c.read.new.source)
      c.script.reader c.read.new.reader c.script.state c.script.invariant c.read.ensures.reads_on c.in-NoMemory.ensures.comes;
}
