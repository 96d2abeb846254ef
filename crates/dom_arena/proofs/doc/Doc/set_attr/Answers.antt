use Rattle.std.proofs.Common.{◌≡◌, subst}
use Rattle.std.specs.Prelude.{OnOk}
use Rattle.std.specs.Str.{chars}
use Rattle.page_model.specs.Edits.{document_after_set_attr, set_attr_causes}
use Rattle.dom_arena.specs.Docs.{Seen, document_in}
use Rattle.dom_arena.specs.Faults.{AnswersBy}
use Rattle.dom_arena.specs.Views.{kept}
use Rattle.dom_arena.proofs.ContentEdits.{set-answered}
use Rattle.dom_arena.proofs.doc.Doc.set_attr.Goals as goal

pub invariant_of-self : goal.invariant_of-self
invariant_of-self c =
    (set-answered (kept c.self.inside.store) (kept c.set_attr.new.store) c.self.inside.root c.args.id (chars c.args.name.now) (chars c.args.value.now) c.set_attr.result c.self.invariant c.set_attr.ensures.set c.set_attr.ensures.causes c.set_attr.ensures.kept).0

pub returns-clause-set : goal.returns-clause-set
returns-clause-set c =
    subst (λ (s : Seen). OnOk c.set_attr.result (document_in (kept c.set_attr.new.store) c.self.inside.root ≡ document_after_set_attr c.args.id (chars c.args.name.now) (chars c.args.value.now) s.document)) c.self.view_is
    (set-answered (kept c.self.inside.store) (kept c.set_attr.new.store) c.self.inside.root c.args.id (chars c.args.name.now) (chars c.args.value.now) c.set_attr.result c.self.invariant c.set_attr.ensures.set c.set_attr.ensures.causes c.set_attr.ensures.kept).1

pub returns-clause-causes : goal.returns-clause-causes
returns-clause-causes c =
    subst (λ (s : Seen). AnswersBy (set_attr_causes c.args.id (chars c.args.name.now) (chars c.args.value.now) s.document) c.set_attr.result) c.self.view_is
    (set-answered (kept c.self.inside.store) (kept c.set_attr.new.store) c.self.inside.root c.args.id (chars c.args.name.now) (chars c.args.value.now) c.set_attr.result c.self.invariant c.set_attr.ensures.set c.set_attr.ensures.causes c.set_attr.ensures.kept).2
