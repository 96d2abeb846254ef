-- The reason that a fault of a tree becomes.
use Rattle.jsonml_reader.specs.declared.fault.TreeFault.{TreeFault}
use Rattle.jsonml_reader.specs.declared.fault.TreeFault.TheVariants as fault
use Rattle.relayout_requests.specs.declared.unread.Unread.{Unread}
use Rattle.relayout_requests.specs.declared.unread.Unread.TheVariants.{BadRequest, NoMemory}

-- a value that stands for no tree is not in the grammar
abbrev pub unread_by : TreeFault → Unread
unread_by fault.Shape = BadRequest
unread_by fault.NoMemory = NoMemory
