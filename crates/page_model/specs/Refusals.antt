-- Why a request is refused: the number and the name of each cause, and causes in the order in which they are asked.
use Rattle.std.specs.Prelude.{◌≡◌, ℕ, List, [], ◌∷◌, codes, Bool, if◌then◌else◌, Option, Some, None}
use Rattle.page_model.specs.declared.cause.Cause.{Cause}
use Rattle.page_model.specs.declared.cause.Cause.TheVariants.{BadJson, BadRequest, LineTooLong, NotLoaded, NoNode, NotElement, NotText, IsRoot, Cycle, BadIndex, BadName, NodeLimit, DepthLimit, TextLimit, IdLimit, ViewportRange, SheetLimit, NoSheet, AttrLimit, BadSelector, NotBuilt}
use Rattle.page_model.specs.declared.refusal.Refusal.{Refusal}
use Rattle.page_model.specs.declared.refusal.Refusal.TheVariants as refusal

-- the number by which replies name a cause
abbrev pub cause_number : Cause → ℕ
cause_number BadJson = 1
cause_number BadRequest = 2
cause_number LineTooLong = 3
cause_number NotLoaded = 4
cause_number NoNode = 5
cause_number NotElement = 6
cause_number NotText = 7
cause_number IsRoot = 8
cause_number Cycle = 9
cause_number BadIndex = 10
cause_number BadName = 11
cause_number NodeLimit = 12
cause_number DepthLimit = 13
cause_number TextLimit = 14
cause_number IdLimit = 15
cause_number ViewportRange = 16
cause_number SheetLimit = 17
cause_number NoSheet = 18
cause_number AttrLimit = 19
cause_number BadSelector = 20
cause_number NotBuilt = 21

-- the word by which replies name a cause
abbrev pub cause_name : Cause → List ℕ
cause_name BadJson = codes "bad-json"
cause_name BadRequest = codes "bad-request"
cause_name LineTooLong = codes "line-too-long"
cause_name NotLoaded = codes "not-loaded"
cause_name NoNode = codes "no-node"
cause_name NotElement = codes "not-element"
cause_name NotText = codes "not-text"
cause_name IsRoot = codes "is-root"
cause_name Cycle = codes "cycle"
cause_name BadIndex = codes "bad-index"
cause_name BadName = codes "bad-name"
cause_name NodeLimit = codes "node-limit"
cause_name DepthLimit = codes "depth-limit"
cause_name TextLimit = codes "text-limit"
cause_name IdLimit = codes "id-limit"
cause_name ViewportRange = codes "viewport-range"
cause_name SheetLimit = codes "sheet-limit"
cause_name NoSheet = codes "no-sheet"
cause_name AttrLimit = codes "attr-limit"
cause_name BadSelector = codes "bad-selector"
cause_name NotBuilt = codes "not-built"

-- the cause of an edit's refusal; want of memory has none
abbrev pub cause_of : Refusal → Option Cause
cause_of refusal.NoMemory = None
cause_of refusal.NotLoaded = Some NotLoaded
cause_of refusal.NoNode = Some NoNode
cause_of refusal.NotElement = Some NotElement
cause_of refusal.NotText = Some NotText
cause_of refusal.IsRoot = Some IsRoot
cause_of refusal.Cycle = Some Cycle
cause_of refusal.BadIndex = Some BadIndex
cause_of refusal.BadName = Some BadName
cause_of refusal.NodeLimit = Some NodeLimit
cause_of refusal.DepthLimit = Some DepthLimit
cause_of refusal.TextLimit = Some TextLimit
cause_of refusal.IdLimit = Some IdLimit
cause_of refusal.ViewportRange = Some ViewportRange
cause_of refusal.SheetLimit = Some SheetLimit
cause_of refusal.NoSheet = Some NoSheet
cause_of refusal.AttrLimit = Some AttrLimit

-- causes in the order in which they are asked, each with whether it holds
abbrev pub Causes : Type 0
Causes = List (Bool × Cause)

-- the first that holds
abbrev pub first_of : Causes → Option Cause
first_of [] = None
first_of (c ∷ cs) = if c.0 then Some c.1 else first_of cs

-- a cause is the first that holds; `None` is want of memory, which may come at any time
abbrev pub IsFirstCause : Causes → Option Cause → Type 0
IsFirstCause causes None = Unit {0}
IsFirstCause causes (Some c) = first_of causes ≡ Some c

-- an edit is refused by these causes
abbrev pub IsRefusedBy : Causes → Refusal → Type 0
IsRefusedBy causes r = IsFirstCause causes (cause_of r)
