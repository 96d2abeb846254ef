use Rattle.std.proofs.Common.{◌∙◌, sym, subst, List, [], ◌∷◌, Bool}
use Rattle.custom_props.specs.inner.Graphs.{Marks}
use Rattle.custom_props.proofs.Marking.{marks_new}
use Rattle.custom_props.proofs.searches.mark.Goals as goal

pub returns : goal.returns
returns c =
    subst (λ (m : List Bool). Marks (c.args.place ∷ []) c.args.marks.now c.args.pending.now m c.push.new.self) (sym c.set.ensures)
    (marks_new c.args.place c.args.marks.now c.args.pending.now c.push.new.self c.requires
    (sym c.is_marked.ensures ∙ c.if-is_marked.false) c.in_ok-push.ensures.ok)
