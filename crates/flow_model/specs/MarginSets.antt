-- Sets of adjoining margins (CSS 2.1, section 8.3.1).
use Rattle.std.specs.Prelude.{ℤ, pos, ◌+ℤ◌, List, [], ◌∷◌, map}
use Rattle.std.specs.Int.{int_min, int_max}
use Rattle.std.specs.List.{fold}
use Rattle.units64.specs.Limits.{clamped_units}
use Rattle.flow_model.specs.declared.margins.Margins.{Margins}

-- the greatest of these that is positive, or 0
abbrev pub greatest_positive : List ℤ → ℤ
greatest_positive ns = fold int_max (pos 0) ns

-- the most negative of these, or 0
abbrev pub most_negative : List ℤ → ℤ
most_negative ns = fold int_min (pos 0) ns

-- what is seen of a set of margins
abbrev pub seen : List ℤ → Margins
seen set = record { positive = greatest_positive set; negative = most_negative set }

-- the set of one margin
abbrev pub alone : ℤ → Margins
alone n = seen (n ∷ [])

abbrev pub empty : Margins
empty = seen []

-- several sets as one
abbrev pub joined : List Margins → Margins
joined sets = record {
  positive = greatest_positive (map (λ m. m.positive) sets);
  negative = most_negative (map (λ m. m.negative) sets);
}

-- how wide the margin is that a set collapses to: what is negative is deducted from what is positive
abbrev pub collapsed : Margins → ℤ
collapsed m = clamped_units (m.positive +ℤ m.negative)
