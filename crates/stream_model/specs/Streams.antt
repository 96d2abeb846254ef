-- What is seen of a source and of a sink, and what happens to it.
use Rattle.std.specs.Prelude.{◌≡◌, ℕ, ◌+◌, ◌-◌, ◌^◌, ◌≤◌, min, max, List, [], ◌++◌, length, take, Option, Some, None}

-- what is seen of a source: the bytes left where it tells them, how many bytes were taken, and how
-- often it failed
pub record SourceState : Type 0 where
  pub left : Option (List ℕ)
  pub taken : ℕ
  pub faults : ℕ

-- what is seen of a sink: the bytes that it holds where it tells them, and how often it failed
pub record SinkState : Type 0 where
  pub held : Option (List ℕ)
  pub faults : ℕ

-- R holds of what a stream told before and tells now, if it tells; a stream that tells goes on
-- telling
abbrev pub FromTo : Option (List ℕ) → Option (List ℕ) → (List ℕ → List ℕ → Type 0) → Type 0
FromTo None None R = Unit {0}
FromTo (Some old) (Some new) R = R old new
FromTo None (Some new) R = ⊥
FromTo (Some old) None R = ⊥

-- the last value of a count, at which it stops
abbrev pub last_count : ℕ
last_count = 2 ^ 64 - 1

-- a count of faults rose, or stands at its last value
abbrev pub Rose : ℕ → ℕ → Type 0
Rose before now = min (before + 1) last_count ≤ now

-- a fault was counted: the count has not fallen, and rose or stands at its last value
abbrev pub CountsFault : ℕ → ℕ → Type 0
CountsFault before now = (before ≤ now) × Rose before now

-- a count grew by n, as far as its last value
abbrev pub Grew : ℕ → ℕ → ℕ → Type 0
Grew before n now = now ≡ max before (min (before + n) last_count)

-- nothing is left of a stream that tells
abbrev pub NothingLeft : Option (List ℕ) → Type 0
NothingLeft None = Unit {0}
NothingLeft (Some bytes) = bytes ≡ []

-- these bytes, and no others, were taken from the front
abbrev pub Takes : Option (List ℕ) → Option (List ℕ) → List ℕ → Type 0
Takes left left' bytes = FromTo left left' (λ old new. old ≡ bytes ++ new)

-- n bytes were taken from the front
abbrev pub TakesCount : Option (List ℕ) → Option (List ℕ) → ℕ → Type 0
TakesCount left left' n =
    FromTo left left' (λ old new. (bytes : List ℕ) × (old ≡ bytes ++ new) × (length bytes ≡ n))

-- these bytes were appended
abbrev pub Appends : Option (List ℕ) → Option (List ℕ) → List ℕ → Type 0
Appends held held' bytes = FromTo held held' (λ old new. new ≡ old ++ bytes)

-- a prefix of these bytes was appended
abbrev pub AppendsPart : Option (List ℕ) → Option (List ℕ) → List ℕ → Type 0
AppendsPart held held' bytes =
    FromTo held held' (λ old new. (k : ℕ) × (k ≤ length bytes) × (new ≡ old ++ take k bytes))
