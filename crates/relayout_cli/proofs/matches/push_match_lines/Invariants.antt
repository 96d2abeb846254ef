use Rattle.std.proofs.Common.{◌≡◌, ◌++◌, drop, filter, flat_map, map, string_bytes}
use Rattle.selectors_model.specs.Matching.{list_matches}
use Rattle.selectors.specs.Views.{list_of_selectors, selector_view}
use Rattle.reply_model.specs.MatchText.{match_line}
use Rattle.relayout_cli.proofs.matches.push_match_lines.Given as goal

-- the lines so far and those of the rest are those of all
abbrev pub invariant-loop-id : goal.invariant-loop-id
invariant-loop-id l =
    string_bytes l.reply ++ flat_map match_line (filter (list_matches l.doc.document.root (list_of_selectors (map selector_view l.members))) (drop l.id-index l.ids))
    ≡ string_bytes l.fn.reply ++ flat_map match_line (filter (list_matches l.doc.document.root (list_of_selectors (map selector_view l.members))) l.ids)
