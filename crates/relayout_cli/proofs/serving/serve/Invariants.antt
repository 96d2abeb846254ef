use Rattle.port_core.specs.Reader.{work}
use Rattle.relayout_cli.specs.Runs.{setting_of}
use Rattle.relayout_cli.proofs.ServeLemmas.{Serving}
use Rattle.relayout_cli.proofs.serving.serve.Given as goal

-- the lines so far were answered, and nothing failed
abbrev pub invariant-script : goal.invariant-script
invariant-script g l =
    Serving (setting_of l.fn.profile)
    (record { source = g.I.Source.seen l.fn.source; sink = g.O.Sink.seen l.fn.sink; ledger = l.fn.steps })
    (record { source = g.I.Source.seen l.source; sink = g.O.Sink.seen l.sink; ledger = l.steps }) l.reader l.state

abbrev pub decreases-script : goal.decreases-script
decreases-script g l = work l.reader
