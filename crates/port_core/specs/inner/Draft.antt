-- What is kept of a line while it is read.
use Rattle.std.specs.Prelude.{◌≡◌, ℕ, ◌+◌, ◌<◌, ◌≤◌, ◌⊎◌, List, [], ◌++◌, length}
use Rattle.stream_model.specs.declared.limits.TheConstants.{MAX_LINE}
use Rattle.port_core.specs.declared.reader.Line.{Line}
use Rattle.port_core.specs.declared.reader.Line.TheVariants.{Whole, TooLong, End, Failed, Spent}

-- a draft is the whole front of a line, or a part of it that shows that the line is too long
abbrev pub IsDraftOf : List ℕ → List ℕ → Type 0
IsDraftOf draft front = (draft ≡ front) ⊎ ((MAX_LINE < length draft) × (length draft ≤ length front))

-- a piece was appended to a draft, or as much of it as shows that the line is too long
abbrev pub Absorbs : List ℕ → List ℕ → List ℕ → Type 0
Absorbs draft piece draft' =
    (draft' ≡ draft ++ piece)
    ⊎ ((MAX_LINE < length draft') × (length draft' ≤ length draft + length piece))

-- a finished draft is a line; or it shows that the line is too long, and is emptied
abbrev pub Settles : Line → List ℕ → List ℕ → Type 0
Settles Whole draft draft' = (draft' ≡ draft) × (length draft ≤ MAX_LINE)
Settles TooLong draft draft' = (draft' ≡ []) × (MAX_LINE < length draft)
Settles End draft draft' = ⊥
Settles Failed draft draft' = ⊥
Settles Spent draft draft' = ⊥
