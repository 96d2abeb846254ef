use Rattle.std.proofs.Common.{◌≡◌, drop, map}
use Rattle.std.specs.List.{list_any}
use Rattle.css_rules.specs.Views.{sheet_view}
use Rattle.request_model.specs.UnbuiltStyles.{is_unbuilt_rule}
use Rattle.page_styles.proofs.unbuilt.any_unbuilt_rule.Given as goal

-- so far none had one
abbrev pub invariant-loop-sheet : goal.invariant-loop-sheet
invariant-loop-sheet l =
    list_any (list_any is_unbuilt_rule) (map sheet_view (drop l.sheet-index l.sheets))
    ≡ list_any (list_any is_unbuilt_rule) (map sheet_view l.sheets)
