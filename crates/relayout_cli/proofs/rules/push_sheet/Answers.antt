use Rattle.std.proofs.Common.{◌≡◌, ◌∙◌, ap, ◌++◌, List, ℕ, string_bytes}
use Rattle.relayout_cli.specs.inner.RuleLines.{condition_counts, count_at, kept_line}
use Rattle.relayout_cli.proofs.RuleLemmas.{told-next, rules-next}
use Rattle.relayout_cli.proofs.rules.push_sheet.Goals as goal

pub loop-place-preserved : goal.loop-place-preserved
loop-place-preserved c =
    let rule = c.index-rules-place.result in
    let n : c.count_at-conditions.result ≡ count_at (condition_counts c.args.sheet.now.conditions) rule.around =
    c.count_at-conditions.ensures ∙ ap (λ (counts : List ℕ). count_at counts rule.around)
    (c.as_slice-in-loop-place.ensures ∙ (c.in_ok-counts.ensures ∙ ap condition_counts c.as_slice.ensures)) in
    told-next _ _ _ _ _ _ (c.in_ok-push_rule.ensures ∙ ap (λ m. string_bytes c.loop-place.reply ++ kept_line c.args.number c.loop-place.place m rule) n)
    c.loop-place.invariant (rules-next c.args.number c.loop-place.place c.args.sheet.now.conditions c.as_slice-rules.result.now rule c.loop-place-test.true c.index-rules-place.is)
