use Rattle.std.proofs.Common.{◌≡◌, drop, map}
use Rattle.selectors_model.specs.Matching.{list_matches}
use Rattle.selectors.specs.Views.{list_of_selectors, selector_view}
use Rattle.relayout_cli.proofs.matches.any_matches.Given as goal

-- so far none did
abbrev pub invariant-loop-member : goal.invariant-loop-member
invariant-loop-member l =
    list_matches l.doc.document.root (list_of_selectors (map selector_view (drop l.member-index l.members))) l.id
    ≡ list_matches l.doc.document.root (list_of_selectors (map selector_view l.members)) l.id
