use Rattle.std.proofs.Common.{subst}
use Rattle.dom_arena.specs.Docs.{Seen, IsDocument}
use Rattle.dom_arena.specs.Views.{kept}
use Rattle.dom_arena.proofs.Docs.{doc-facts}
use Rattle.dom_arena.proofs.doc.Doc.root.Goals as goal

pub returns-clause-facts : goal.returns-clause-facts
returns-clause-facts c = subst (λ (s : Seen). IsDocument s.document) c.self.view_is (doc-facts (kept c.self.inside.store) c.self.inside.root c.self.invariant)
