-- What was read of the front, and then what is left, is what is read of all.
use Rattle.std.proofs.Common.{◌≡◌, drop}
use Rattle.css_tokens.specs.Nested.{components_view}
use Rattle.selectors_model.specs.Grammar.{atoms_of}
use Rattle.selectors.specs.inner.Drafts.{outcome_after, no_members}
use Rattle.selectors.proofs.reading.functions.+reading.Given as goal

abbrev pub invariant-read_members-loop-c : goal.invariant-read_members-loop-c
invariant-read_members-loop-c l =
    outcome_after l.draft (atoms_of (components_view (drop l.c-index l.components)))
    ≡ outcome_after (no_members l.in_function) (atoms_of (components_view l.components))
