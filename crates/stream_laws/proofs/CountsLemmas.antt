-- The count since the last mark is that of the pairs after it.
use Rattle.std.proofs.Common.{◌≡◌, List, [], ◌∷◌, ◌++◌, true, false, refl, zero-add}
use Rattle.std.proofs.lemmas.List.Sums.{sum_by-cons}
use Rattle.stream_model.specs.declared.kind.Kind.{Kind}
use Rattle.stream_model.specs.Ledger.{Event, pair, mark, Log, pairs, has_mark, count_since_mark}
use Rattle.stream_laws.specs.Counts.{count_of_kind}

has_mark-pairs : (log : Log) → has_mark (pairs log) ≡ false
has_mark-pairs [] = refl
has_mark-pairs (p ∷ log) = has_mark-pairs log

pub count_since_mark-pairs : (kind : Kind) (log : Log) → count_since_mark kind (pairs log) ≡ count_of_kind kind log
count_since_mark-pairs kind [] = refl
count_since_mark-pairs kind (p ∷ log) = rw (has_mark-pairs log, count_since_mark-pairs kind log, sum_by-cons) refl

has_mark-after : (es : List Event) (log : Log) → has_mark (es ++ mark ∷ pairs log) ≡ true
has_mark-after [] log = refl
has_mark-after (mark ∷ es) log = refl
has_mark-after (pair k id ∷ es) log = has_mark-after es log

pub count_since_mark-after : (kind : Kind) (es : List Event) (log : Log) → count_since_mark kind (es ++ mark ∷ pairs log) ≡ count_of_kind kind log
count_since_mark-after kind [] log = count_since_mark-pairs kind log
count_since_mark-after kind (mark ∷ es) log = count_since_mark-after kind es log
count_since_mark-after kind (pair k id ∷ es) log = rw (has_mark-after es log, zero-add) (count_since_mark-after kind es log)
