use Rattle.std.proofs.Common.{◌≡◌, None, ap, ◌∙◌, rules}
use Rattle.port_core.specs.Reader.{Reader}
use Rattle.port_core.proofs.ReadsLemmas.{Reads-line, Reads-last}
use Rattle.port_core.proofs.reader.LineReader.read.Goals as goal

pub returns-in-Line : goal.returns-in-Line
returns-in-Line g c =
    let stopped : c.self.inside.stopped ≡ None = ap (λ (r : Reader). r.stopped) c.self.view_is ∙ c.requires in
    rw (← c.self.view_is) (Reads-line _ _ _ _ _ _ _ _ _ stopped c.in-Line.ensures c.settle.ensures)

pub returns-else-is_empty : goal.returns-else-is_empty
returns-else-is_empty g c =
    let stopped : c.self.inside.stopped ≡ None = ap (λ (r : Reader). r.stopped) c.self.view_is ∙ c.requires in
    rw (← c.self.view_is) (Reads-last _ _ _ _ _ _ _ _ _ stopped (λ e. search rules) c.in-End.ensures c.settle-in-End.ensures)
