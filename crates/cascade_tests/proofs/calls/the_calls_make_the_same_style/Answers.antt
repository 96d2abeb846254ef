use Rattle.std.proofs.Common.{sym, subst, ℕ, List}
use Rattle.selectors_model.specs.declared.spec.Spec.{Spec}
use Rattle.cascade_core.specs.Books.{AreInBook, book_view}
use Rattle.cascade_core.proofs.RulesAt.{numbers-are}
use Rattle.cascade_tests.proofs.calls.the_calls_make_the_same_style.Goals as goal

pub answers-requires-clause-numbers : goal.answers-requires-clause-numbers
answers-requires-clause-numbers g c =
    subst (λ (pairs : List (ℕ × Spec)). AreInBook pairs (book_view c.in_ok-page.page.book)) (sym c.match_rules.ensures.matched)
    (numbers-are c.in_ok-page.page.doc.document.root 0 c.rules.result.now (book_view c.in_ok-page.page.book) c.rules.ensures)

pub winning-requires-clause-numbers : goal.winning-requires-clause-numbers
winning-requires-clause-numbers g c =
    subst (λ (pairs : List (ℕ × Spec)). AreInBook pairs (book_view c.in_ok-page.page.book)) (sym c.match_rules.ensures.matched)
    (numbers-are c.in_ok-page.page.doc.document.root 0 c.rules.result.now (book_view c.in_ok-page.page.book) c.rules.ensures)
