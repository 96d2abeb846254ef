use Rattle.std.proofs.Common.{◌≡◌, ◌∙◌, ap, sym, subst, option_map, IfOk, List, ℕ}
use Rattle.std.specs.Option.{option_copied}
use Rattle.css_rules.specs.Views.{declarations_view}
use Rattle.selectors_model.specs.declared.spec.Spec.{Spec}
use Rattle.cascade_model.specs.Cascaded.{Cascaded, cascaded_of}
use Rattle.cascade_model.specs.Kept.{kept_declarations}
use Rattle.cascade_model.specs.Styling.{styling_of}
use Rattle.cascade_core.specs.Books.{AreInBook, book_view}
use Rattle.cascade_core.specs.StyledView.{styled_view}
use Rattle.cascade_core.proofs.RulesAt.{applied-to, numbers-are}
use Rattle.cascade_core.proofs.elements.styled_element.Goals as goal

pub answers-requires-clause-numbers : goal.answers-requires-clause-numbers
answers-requires-clause-numbers g c =
    subst (λ (pairs : List (ℕ × Spec)). AreInBook pairs (book_view c.args.book.now)) (sym c.match_rules.ensures.matched)
    (numbers-are c.args.doc.now.document.root c.args.id c.rules.result.now (book_view c.args.book.now) c.rules.ensures)

pub winning-requires-clause-numbers : goal.winning-requires-clause-numbers
winning-requires-clause-numbers g c =
    subst (λ (pairs : List (ℕ × Spec)). AreInBook pairs (book_view c.args.book.now)) (sym c.match_rules.ensures.matched)
    (numbers-are c.args.doc.now.document.root c.args.id c.rules.result.now (book_view c.args.book.now) c.rules.ensures)

pub returns-clause-style : goal.returns-clause-style
returns-clause-style g c =
    subst (λ (w : Cascaded). IfOk c.resolve.result (λ s. styled_view s ≡ styling_of (record {
      cascaded = w;
      parent = option_map styled_view (option_copied c.args.parent);
      bases = c.args.b.now;
    })))
    (c.in_ok-winners.ensures
    ∙ ap cascaded_of (applied-to c.args.v c.args.doc.now.document.root c.args.id c.rules.result.now (book_view c.args.book.now)
    c.match_rules.new.room.pairs c.in_ok-answers.answers (kept_declarations (declarations_view c.in_ok-inline.inline))
    c.rules.ensures c.match_rules.ensures.matched c.in_ok-answers.ensures.answers c.in_ok-inline.ensures))
    c.resolve.ensures.style
