use Rattle.std.proofs.Common.{◌≡◌, ◌∙◌, ap, subst, List, OnOk, length, map}
use Rattle.css_rules.specs.Views.{condition_lists}
use Rattle.css_rules.specs.declared.sheet.Condition.{Condition}
use Rattle.css_rules.specs.declared.sheet.StyleRule.{StyleRule}
use Rattle.cascade_model.specs.Books.{BookRule, media_among}
use Rattle.cascade_core.specs.Views.{media_view}
use Rattle.cascade_core.specs.inner.Drafts.{Adds, book_rules_of}
use Rattle.cascade_core.proofs.BookOf.{sheet-seen}
use Rattle.cascade_core.proofs.draft.add_sheet.Goals as goal

pub returns : goal.returns
returns c =
    let read : map media_view c.as_slice-3.result.now ≡ map media_among (condition_lists c.args.sheet.now.conditions) =
    ap (map media_view) c.as_slice-3.ensures
    ∙ (c.in_ok-places.ensures ∙ ap (λ (cs : List Condition). map media_among (condition_lists cs)) c.as_slice.ensures) in
    subst (λ (added : List BookRule). OnOk c.add_rules.result (Adds c.args.draft.now c.add_rules.new.draft added
    (length c.args.sheet.now.rules)))
    (sheet-seen c.args.origin c.args.sheet.now (map media_view c.as_slice-3.result.now) read)
    (subst (λ (rules : List StyleRule). OnOk c.add_rules.result (Adds c.args.draft.now c.add_rules.new.draft
    (book_rules_of c.args.origin (map media_view c.as_slice-3.result.now) rules) (length rules)))
    c.as_slice-2.ensures c.add_rules.ensures)
