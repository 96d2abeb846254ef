use Rattle.std.proofs.Common.{◌≡◌, is_some, subst, rules}
use Rattle.page_model.specs.Document.{find}
use Rattle.dom_arena.specs.Docs.{Seen, IsDocument}
use Rattle.dom_arena.specs.Stores.{Kept, slot_by_id}
use Rattle.dom_arena.specs.Views.{kept}
use Rattle.dom_arena.proofs.Docs.{doc-facts, read-live}
use Rattle.dom_arena.proofs.doc.Doc.is_live.Goals as goal

pub returns-clause-value : goal.returns-clause-value
returns-clause-value c =
    let k : Kept = kept c.self.inside.store in
    let found : is_some (slot_by_id k c.args.id) ≡ is_some (find c.args.id c.args.self.now.document.root) =
    subst (λ (s : Seen). is_some (slot_by_id k c.args.id) ≡ is_some (find c.args.id s.document.root)) c.self.view_is (read-live k c.self.inside.root c.args.id c.self.invariant) in
    search rules

pub returns-clause-facts : goal.returns-clause-facts
returns-clause-facts c = subst (λ (s : Seen). IsDocument s.document) c.self.view_is (doc-facts (kept c.self.inside.store) c.self.inside.root c.self.invariant)
