use Rattle.std.proofs.Common.{None, Some, inr, rules, subst, ◌∙◌, ◌≡◌}
use Rattle.page_model.specs.Edits.{move_causes}
use Rattle.page_model.specs.Refusals.{first_of}
use Rattle.page_model.specs.declared.cause.Cause.TheVariants as cause
use Rattle.dom_arena.specs.Docs.{Seen}
use Rattle.dom_arena.specs.Faults.{cause_in}
use Rattle.dom_arena.specs.Slots.{table_at}
use Rattle.dom_arena.specs.Stores.{Kept}
use Rattle.dom_arena.specs.Views.{kept}
use Rattle.dom_arena.proofs.MoveCauses.{causes-seen, move-no-node, move-no-parent}
use Rattle.dom_arena.proofs.doc.Doc.move_to.Goals as goal

pub returns-in_default-clause-causes : goal.returns-in_default-clause-causes
returns-in_default-clause-causes c =
    let k : Kept = kept c.self.inside.store in
    let none : table_at k.table c.args.id ≡ None = search rules in
    inr (subst (λ (s : Seen). first_of (move_causes c.args.id c.args.parent c.args.index s.document) ≡ Some cause.NoNode) c.self.view_is
    (move-no-node k c.self.inside.root c.args.id c.args.parent c.args.index c.self.invariant none))

pub returns-in_default-at-clause-causes : goal.returns-in_default-at-clause-causes
returns-in_default-at-clause-causes c =
    let k : Kept = kept c.self.inside.store in
    let none : table_at k.table c.args.parent ≡ None = search rules in
    inr (subst (λ (s : Seen). first_of (move_causes c.args.id c.args.parent c.args.index s.document) ≡ Some cause.NoNode) c.self.view_is
    (move-no-parent k c.self.inside.root c.args.id c.args.parent c.args.index c.self.invariant none))

pub returns-in_err-check_move-clause-causes : goal.returns-in_err-check_move-clause-causes
returns-in_err-check_move-clause-causes c =
    let k : Kept = kept c.self.inside.store in
    let node : table_at k.table c.args.id ≡ Some c.in-Some.at = search rules in
    let parent : table_at k.table c.args.parent ≡ Some c.in-Some-at.up = search rules in
    let same = causes-seen k c.self.inside.root c.args.id c.args.parent c.in-Some.at c.in-Some-at.up c.args.index c.args.self.now c.self.view_is c.self.invariant node parent in
    let answers : first_of (move_causes c.args.id c.args.parent c.args.index c.args.self.now.document) ≡ cause_in c.in_err-check_move.field-0.0 = same ∙ c.in_err-check_move.ensures.1 in
    search rules

pub returns-clause-causes : goal.returns-clause-causes
returns-clause-causes c =
    let k : Kept = kept c.self.inside.store in
    let node : table_at k.table c.args.id ≡ Some c.in-Some.at = search rules in
    let parent : table_at k.table c.args.parent ≡ Some c.in-Some-at.up = search rules in
    let same = causes-seen k c.self.inside.root c.args.id c.args.parent c.in-Some.at c.in-Some-at.up c.args.index c.args.self.now c.self.view_is c.self.invariant node parent in
    same ∙ c.in_ok-check_move.ensures
