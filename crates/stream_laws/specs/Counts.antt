-- How many pairs of a kind a log has.
use Rattle.std.specs.Prelude.{ℕ}
use Rattle.std.specs.List.{count_by}
use Rattle.stream_model.specs.Ledger.{Log, is_same}
use Rattle.stream_model.specs.declared.kind.Kind.{Kind}

abbrev pub count_of_kind : Kind → Log → ℕ
count_of_kind kind log = count_by (λ p. is_same kind p.0) log
