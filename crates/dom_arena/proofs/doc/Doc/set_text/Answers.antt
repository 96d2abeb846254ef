use Rattle.std.proofs.Common.{◌≡◌, subst}
use Rattle.std.specs.Prelude.{OnOk}
use Rattle.std.specs.Str.{chars}
use Rattle.page_model.specs.Edits.{document_after_set_text, set_text_causes}
use Rattle.dom_arena.specs.Docs.{Seen, document_in}
use Rattle.dom_arena.specs.Faults.{AnswersBy}
use Rattle.dom_arena.specs.Views.{kept}
use Rattle.dom_arena.proofs.ContentEdits.{text-answered}
use Rattle.dom_arena.proofs.doc.Doc.set_text.Goals as goal

pub invariant_of-self : goal.invariant_of-self
invariant_of-self c =
    (text-answered (kept c.self.inside.store) (kept c.set_text.new.store) c.self.inside.root c.args.id (chars c.args.text.now) c.set_text.result c.self.invariant c.set_text.ensures.set c.set_text.ensures.causes c.set_text.ensures.kept).0

pub returns-clause-set : goal.returns-clause-set
returns-clause-set c =
    subst (λ (s : Seen). OnOk c.set_text.result (document_in (kept c.set_text.new.store) c.self.inside.root ≡ document_after_set_text c.args.id (chars c.args.text.now) s.document)) c.self.view_is
    (text-answered (kept c.self.inside.store) (kept c.set_text.new.store) c.self.inside.root c.args.id (chars c.args.text.now) c.set_text.result c.self.invariant c.set_text.ensures.set c.set_text.ensures.causes c.set_text.ensures.kept).1

pub returns-clause-causes : goal.returns-clause-causes
returns-clause-causes c =
    subst (λ (s : Seen). AnswersBy (set_text_causes c.args.id (chars c.args.text.now) s.document) c.set_text.result) c.self.view_is
    (text-answered (kept c.self.inside.store) (kept c.set_text.new.store) c.self.inside.root c.args.id (chars c.args.text.now) c.set_text.result c.self.invariant c.set_text.ensures.set c.set_text.ensures.causes c.set_text.ensures.kept).2
