-- What reading a part of a request answers.
use Rattle.std.specs.Prelude.{◌≡◌, Option, Some, None, Result, Ok, Err}
use Rattle.relayout_requests.specs.declared.unread.Unread.{Unread}
use Rattle.relayout_requests.specs.declared.unread.Unread.TheVariants.{BadRequest, NoMemory}

-- the answer, through a view of it, is what was to be read, unless memory ran out
abbrev pub Reads : {X Y : Type 0} → (X → Y) → Result X Unread → Option Y → Type 0
Reads view (Ok x) read = read ≡ Some (view x)
Reads view (Err BadRequest) read = read ≡ None
Reads view (Err NoMemory) read = Unit {0}
