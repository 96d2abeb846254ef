-- They are as many as a page may have.
use Rattle.cascade_core.specs.Books.{AreFew}
use Rattle.cascade_tests.proofs.pages.book.Given as goal

abbrev pub invariant-loop-text : goal.invariant-loop-text
invariant-loop-text g l = AreFew l.sheets
