use Rattle.std.proofs.Common.{[], ◌∙◌, ap, sym, length, ◌≤◌}
use Rattle.std.proofs.lemmas.List.{drop_all}
use Rattle.std.proofs.lemmas.Result.{IfOk-weaker}
use Rattle.css_tokens.specs.Nested.{components_view}
use Rattle.selectors_model.specs.Grammar.{atoms_of}
use Rattle.selectors.specs.inner.Drafts.{outcome_after}
use Rattle.selectors.proofs.ReadLists.{read-whole}
use Rattle.selectors.proofs.reading.functions.+reading.Goals as goal

pub read_members-returns : goal.read_members-returns
read_members-returns t c =
    let done : length c.args.components.now ≤ c.loop-c.c-index = rw c.as_slice-c-items.ensures at c.loop-c-test.false in
    let last = drop_all c.loop-c.c-index c.args.components.now done in
    IfOk-weaker c.finish.result _ _
    (λ read has. read-whole read c.args.in_function (atoms_of (components_view c.args.components.now)) (outcome_after c.loop-c.draft []) has
    (ap (λ cs. outcome_after c.loop-c.draft (atoms_of (components_view cs))) (sym last) ∙ c.loop-c.invariant))
    c.finish.ensures
