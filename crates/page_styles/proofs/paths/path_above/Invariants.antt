use Rattle.std.proofs.Common.{◌++◌, ℕ, List, unwrap_or}
use Rattle.page_model.specs.Edits.{level}
use Rattle.page_styles.specs.Paths.{IsPathAbove}
use Rattle.page_styles.proofs.paths.path_above.Given as goal

-- what is above the node so far, and then all that is above its last one
abbrev pub invariant-up : goal.invariant-up
invariant-up l =
    (rest : List ℕ) → IsPathAbove l.doc.document.root l.at rest → IsPathAbove l.doc.document.root l.fn.id (l.above ++ rest)

abbrev pub decreases-up : goal.decreases-up
decreases-up l = unwrap_or (level l.at l.doc.document.root) 0
