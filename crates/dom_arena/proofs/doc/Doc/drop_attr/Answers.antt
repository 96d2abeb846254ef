use Rattle.std.proofs.Common.{◌≡◌, subst}
use Rattle.std.specs.Prelude.{OnOk}
use Rattle.std.specs.Str.{chars}
use Rattle.page_model.specs.Edits.{document_after_drop_attr, drop_attr_causes}
use Rattle.dom_arena.specs.Docs.{Seen, document_in}
use Rattle.dom_arena.specs.Faults.{AnswersBy}
use Rattle.dom_arena.specs.Views.{kept}
use Rattle.dom_arena.proofs.ContentEdits.{drop-answered}
use Rattle.dom_arena.proofs.doc.Doc.drop_attr.Goals as goal

pub invariant_of-self : goal.invariant_of-self
invariant_of-self c =
    (drop-answered (kept c.self.inside.store) (kept c.drop_attr.new.store) c.self.inside.root c.args.id (chars c.args.name.now) c.drop_attr.result c.self.invariant c.drop_attr.ensures.dropped c.drop_attr.ensures.order c.drop_attr.ensures.causes c.drop_attr.ensures.kept).0

pub returns-clause-dropped : goal.returns-clause-dropped
returns-clause-dropped c =
    subst (λ (s : Seen). OnOk c.drop_attr.result (document_in (kept c.drop_attr.new.store) c.self.inside.root ≡ document_after_drop_attr c.args.id (chars c.args.name.now) s.document)) c.self.view_is
    (drop-answered (kept c.self.inside.store) (kept c.drop_attr.new.store) c.self.inside.root c.args.id (chars c.args.name.now) c.drop_attr.result c.self.invariant c.drop_attr.ensures.dropped c.drop_attr.ensures.order c.drop_attr.ensures.causes c.drop_attr.ensures.kept).1

pub returns-clause-causes : goal.returns-clause-causes
returns-clause-causes c =
    subst (λ (s : Seen). AnswersBy (drop_attr_causes c.args.id s.document) c.drop_attr.result) c.self.view_is
    (drop-answered (kept c.self.inside.store) (kept c.drop_attr.new.store) c.self.inside.root c.args.id (chars c.args.name.now) c.drop_attr.result c.self.invariant c.drop_attr.ensures.dropped c.drop_attr.ensures.order c.drop_attr.ensures.causes c.drop_attr.ensures.kept).2
