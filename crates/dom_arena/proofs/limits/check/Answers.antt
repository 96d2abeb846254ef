use Rattle.std.proofs.Common.{None, ap, rules, sym, subst, ◌≡◌, ◌∙◌}
use Rattle.page_model.specs.Edits.{Taken, grammar_causes, size_causes}
use Rattle.page_model.specs.Refusals.{Causes, first_of}
use Rattle.page_model.specs.Trees as model
use Rattle.dom_arena.specs.Faults.{ChecksBy}
use Rattle.dom_arena.specs.Measures.{taken_of}
use Rattle.dom_arena.specs.Shape.{shape}
use Rattle.dom_arena.proofs.Refused.{asked_grammar, checks-fault, checks-second, grammar-asked, size-asked}
use Rattle.dom_arena.proofs.limits.check.Goals as goal

pub returns-in_err-check_grammar : goal.returns-in_err-check_grammar
returns-in_err-check_grammar c =
    let t : model.Tree = shape c.args.tree.now in
    let taken : Taken = taken_of c.args.taken in
    let fault : ChecksBy (asked_grammar c.measure-measured.result taken) c.from_residual.result = search rules in
    checks-fault (grammar_causes taken t) (size_causes taken t) c.from_residual.result c.from_residual.ensures.0
    (subst (λ (xs : Causes). ChecksBy xs c.from_residual.result) (grammar-asked c.measure-measured.result taken t c.measure-measured.ensures) fault)

pub returns : goal.returns
returns c =
    let t : model.Tree = shape c.args.tree.now in
    let taken : Taken = taken_of c.args.taken in
    let none : first_of (asked_grammar c.measure-measured.result taken) ≡ None = search rules in
    let none_of : first_of (grammar_causes taken t) ≡ None = sym (ap first_of (grammar-asked c.measure-measured.result taken t c.measure-measured.ensures)) ∙ none in
    checks-second (grammar_causes taken t) (size_causes taken t) c.check_size.result none_of
    (subst (λ (xs : Causes). ChecksBy xs c.check_size.result) (size-asked c.measure-measured.result taken t c.measure-measured.ensures) c.check_size.ensures)
