use Rattle.std.proofs.Common.{◌≡◌, ◌∙◌, ap, ap₂, sym, subst, List, [], ◌++◌, map}
use Rattle.cascade_model.specs.Applied as model
use Rattle.cascade_model.specs.Kept.{kept_declarations}
use Rattle.css_rules.specs.Views.{declarations_view}
use Rattle.cascade_core.specs.Books.{book_view, rules_at}
use Rattle.cascade_core.specs.Views.{all_kept_view}
use Rattle.cascade_core.specs.declared.winners.Winners.{Winners}
use Rattle.cascade_core.specs.inner.BothTables.{AreWinners}
use Rattle.cascade_core.specs.inner.Matches.{applied_at_all}
use Rattle.cascade_core.proofs.CustomWinners.{customs-are}
use Rattle.cascade_core.proofs.Matches.{applied-are}
use Rattle.cascade_core.proofs.WinnersView.{winners-are}
use Rattle.cascade_core.proofs.cascading.winning.Goals as goal

pub returns : goal.returns
returns g c =
    let rules : List model.Applied =
    applied_at_all c.args.book.now.bodies c.args.matched.now.pairs c.as_slice.result.now in
    let matched = c.in_ok-take_matched.ensures [] c.in_ok-tables.ensures in
    let both = c.in_ok-take_all.ensures ([] ++ rules) matched in
    let same : rules ++ map model.applied_in_attribute (all_kept_view c.as_slice-2.result.now)
    ≡ model.applied_of (rules_at (book_view c.args.book.now) c.args.matched.now.pairs) c.args.answers.now
    (kept_declarations (declarations_view c.args.inline.now)) =
    ap₂ (λ x y. x ++ y)
    (ap (applied_at_all c.args.book.now.bodies c.args.matched.now.pairs) c.as_slice.ensures
    ∙ sym (applied-are c.args.book.now.rules c.args.book.now.bodies c.args.matched.now.pairs c.args.answers.now
    c.args.book.now.paired c.requires.numbers))
    (ap (map model.applied_in_attribute) (ap all_kept_view c.as_slice-2.ensures ∙ c.in_ok-kept.ensures)) in
    let w : Winners = record {
      custom = c.in_ok-declared.field-0;
      all = c.take_all.new.tables.all;
      user_agent = c.take_all.new.tables.user_agent;
      defaults = c.in_ok-share.field-0;
    } in
    let end = subst (AreWinners c.take_all.new.tables) same both in
    winners-are w (model.applied_of (rules_at (book_view c.args.book.now) c.args.matched.now.pairs) c.args.answers.now
    (kept_declarations (declarations_view c.args.inline.now))) end.all end.user_agent
    (c.in_ok-declared.ensures ∙ customs-are c.take_all.new.tables.customs.entries.items
    (model.applied_of (rules_at (book_view c.args.book.now) c.args.matched.now.pairs) c.args.answers.now
    (kept_declarations (declarations_view c.args.inline.now))) end.customs)
