-- The pairs so far, and those of the rules that are left, are those of all.
use Rattle.std.proofs.Common.{◌≡◌, ◌++◌, ◌≤◌, drop, length}
use Rattle.selectors.specs.Rules.{matched_rules}
use Rattle.selectors.proofs.matching_rules.match_rules.Given as goal

abbrev pub invariant-loop-rule : goal.invariant-loop-rule
invariant-loop-rule g l = record {
  pairs : l.room.pairs ++ matched_rules l.doc.document.root (drop l.rule-index l.rule-items) l.id
      ≡ matched_rules l.doc.document.root l.rule-items l.id;
  few : length l.room.pairs ≤ l.rule-index;
  room : l.room.room ≡ l.fn.room.room;
}
