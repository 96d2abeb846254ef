-- The ledger of counted work: pairs of a kind of work and the id of a node, and a mark before
-- those of each load or edit.
use Rattle.std.specs.Prelude.{ℕ, ◌+◌, map, List, [], ◌∷◌, ◌++◌, Bool, true, false, if◌then◌else◌}
use Rattle.stream_model.specs.declared.kind.Kind.{Kind}
use Rattle.stream_model.specs.declared.kind.Kind.TheVariants.{Match, Style, Measure, Size, Place}

-- one entry of a ledger
pub data Event : Type 0 where
  pair : (kind : Kind) (id : ℕ) → Event
  mark : Event

-- the pairs that one load or edit logged, in their order
abbrev pub Log : Type 0
Log = List (Kind × ℕ)

-- the pairs of a log as entries
abbrev pub pairs : Log → List Event
pairs log = map (λ p. pair p.0 p.1) log

-- what loads and edits with these logs add to a ledger: a mark each, and its pairs after the mark
abbrev pub events : List Log → List Event
events [] = []
events (log ∷ logs) = mark ∷ pairs log ++ events logs

-- both are the same kind
abbrev pub is_same : Kind → Kind → Bool
is_same Match Match = true
is_same Style Style = true
is_same Measure Measure = true
is_same Size Size = true
is_same Place Place = true
is_same a b = false

-- a mark is among the entries
abbrev pub has_mark : List Event → Bool
has_mark [] = false
has_mark (mark ∷ es) = true
has_mark (pair kind id ∷ es) = has_mark es

-- how many pairs of a kind come after the last mark, or in all where there is no mark: those that
-- no mark follows
abbrev pub count_since_mark : Kind → List Event → ℕ
count_since_mark kind [] = 0
count_since_mark kind (mark ∷ es) = count_since_mark kind es
count_since_mark kind (pair k id ∷ es) =
    (if has_mark es then 0 else (if is_same kind k then 1 else 0)) + count_since_mark kind es
