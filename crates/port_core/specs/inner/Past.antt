-- What a ledger keeps, and the events that it stands for.
use Rattle.std.specs.Prelude.{◌≡◌, ℕ, ◌+◌, min, List, [], ◌∷◌, ◌++◌}
use Rattle.stream_model.specs.Streams.{last_count}
use Rattle.stream_model.specs.Ledger.{Event, pair, mark, count_since_mark}
use Rattle.stream_model.specs.declared.kind.Kind.{Kind}
use Rattle.stream_model.specs.declared.kind.Kind.TheVariants.{Match, Style, Measure, Size, Place}
use Rattle.port_core.specs.declared.steps.Past.{Past}
use Rattle.port_core.specs.declared.steps.Past.TheVariants.{Start, Noted', Marked'}
use Rattle.port_core.specs.declared.steps.Counts.{Counts}

-- the events of a past, the first one first
abbrev pub events_of : Past → List Event
events_of Start = []
events_of (Noted' p before kind id) = events_of before ++ pair kind id ∷ []
events_of (Marked' p before) = events_of before ++ mark ∷ []

-- the count of a kind
abbrev pub count_of : Counts → Kind → ℕ
count_of c Match = c.matches
count_of c Style = c.styles
count_of c Measure = c.measures
count_of c Size = c.sizes
count_of c Place = c.places

-- one more, up to the last count
abbrev pub one_more : ℕ → ℕ
one_more n = min (n + 1) last_count

-- the counts after one more pair of a kind
abbrev pub counts_after_pair : Counts → Kind → Counts
counts_after_pair c Match = record c { matches = one_more c.matches }
counts_after_pair c Style = record c { styles = one_more c.styles }
counts_after_pair c Measure = record c { measures = one_more c.measures }
counts_after_pair c Size = record c { sizes = one_more c.sizes }
counts_after_pair c Place = record c { places = one_more c.places }

-- each count is that of the events, up to the last count
abbrev pub CountsSinceMark : Counts → List Event → Type 0
CountsSinceMark c es = (kind : Kind) → count_of c kind ≡ min (count_since_mark kind es) last_count
