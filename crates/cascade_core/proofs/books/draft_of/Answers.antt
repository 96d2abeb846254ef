use Rattle.std.proofs.Common.{◌∙◌, ◌≤◌, sym, subst, length, arith}
use Rattle.css_rules.specs.declared.sheet.Sheet.{Sheet}
use Rattle.cascade_core.proofs.BookOf.{user_agent-first, sheet-next}
use Rattle.cascade_core.proofs.books.draft_of.Goals as goal

pub loop-sheet-init : goal.loop-sheet-init
loop-sheet-init c =
    let ua : Sheet = c.in_ok-user_agent.user_agent in
    let few : length ua.rules ≤ 2000 = c.in_ok-user_agent.ensures.few in
    record {
      sound = c.in_ok-add_sheet.ensures.sound;
      rules =
          user_agent-first c.empty_draft-draft.result c.add_sheet.new.draft ua c.args.sheets.now
          c.empty_draft-draft.ensures.empty c.in_ok-user_agent.ensures.rules c.in_ok-add_sheet.ensures.book;
      count = omega (arith, c.in_ok-add_sheet.ensures.count, few, c.empty_draft-draft.ensures.none);
    }

pub loop-sheet-preserved : goal.loop-sheet-preserved
loop-sheet-preserved c =
    let s : Sheet = c.sheet-item.result in
    let few : length s.rules ≤ 2000 =
    subst (λ (t : Sheet). length t.rules ≤ 2000) (sym c.sheet-item.is)
    (c.requires.rules c.loop-sheet.sheet-index s c.loop-sheet-test.true) in
    record {
      sound = c.in_ok-add_sheet-2.ensures.sound;
      rules =
          c.loop-sheet.invariant.rules
          ∙ sheet-next c.loop-sheet.draft c.add_sheet-in-loop-sheet.new.draft c.args.sheets.now
          c.loop-sheet.sheet-index s c.loop-sheet-test.true c.sheet-item.is c.in_ok-add_sheet-2.ensures.book;
      count = omega (arith, c.in_ok-add_sheet-2.ensures.count, few, c.loop-sheet.invariant.count);
    }
