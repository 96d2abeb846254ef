-- The rules that were added, and then those of the sheets that are left, are all.
use Rattle.std.proofs.Common.{◌≡◌, ◌≤◌, ◌+◌, ◌*◌, ◌++◌, length, drop, map}
use Rattle.css_rules.specs.Views.{sheet_view}
use Rattle.cascade_model.specs.Books.{author_rules, book_of}
use Rattle.cascade_core.specs.inner.Drafts.{IsDraft, draft_view}
use Rattle.cascade_core.proofs.books.draft_of.Given as goal

abbrev pub invariant-loop-sheet : goal.invariant-loop-sheet
invariant-loop-sheet l = record {
  sound : IsDraft l.draft;
  rules : book_of (map sheet_view l.fn.sheets)
      ≡ draft_view l.draft ++ author_rules (map sheet_view (drop l.sheet-index l.sheets));
  count : length l.draft.rules ≤ 2000 + 2000 * l.sheet-index;
}
