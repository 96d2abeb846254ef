-- What the rest of the table has is what all of it has.
use Rattle.std.proofs.Common.{◌≡◌, drop, map}
use Rattle.std.specs.Map.{lookup}
use Rattle.std.specs.Str.{str_eq_ignore_ascii_case}
use Rattle.value_parts.proofs.words.find_word.Given as goal

abbrev pub invariant-loop-word : goal.invariant-loop-word
invariant-loop-word g l =
    lookup (str_eq_ignore_ascii_case l.fn.name) (map (λ row. (row.0.now, row.1)) (drop l.word-index l.table))
    ≡ lookup (str_eq_ignore_ascii_case l.fn.name) (map (λ row. (row.0.now, row.1)) l.fn.table)
