use Rattle.std.proofs.Common.{None, rules, ◌≡◌}
use Rattle.page_model.specs.Edits.{load_causes}
use Rattle.page_model.specs.Refusals.{first_of}
use Rattle.page_laws.proofs.KeptLimits.{kept-loaded}
use Rattle.dom_arena.specs.Shape.{shape}
use Rattle.dom_arena.proofs.doc.Doc.new.Goals as goal

pub load-requires-clause-limits : goal.load-requires-clause-limits
load-requires-clause-limits c =
    let none : first_of (load_causes (shape c.args.tree.now)) ≡ None = search rules in
    kept-loaded (shape c.args.tree.now) none
