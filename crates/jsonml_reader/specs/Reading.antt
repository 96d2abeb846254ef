-- What reading a part of a value answers.
use Rattle.std.specs.Prelude.{◌≡◌, List, map, Option, Some, None, Result, Ok, Err}
use Rattle.std.specs.Str.{chars}
use Rattle.serde_json.specs.Data.{string, Items, item}
use Rattle.dom_arena.specs.declared.tree.Tree.{Tree}
use Rattle.dom_arena.specs.Shape.{shape}
use Rattle.page_model.specs.Trees as model
use Rattle.page_model.specs.Trees.{Text, Trees}
use Rattle.jsonml_reader.specs.declared.fault.TreeFault.{TreeFault}
use Rattle.jsonml_reader.specs.declared.fault.TreeFault.TheVariants as fault

-- the answer, through a view of it, is what was to be read, unless memory ran out
abbrev pub Reads : {X Y : Type 0} → (X → Y) → Result X TreeFault → Option Y → Type 0
Reads view (Ok x) read = read ≡ Some (view x)
Reads view (Err fault.Shape) read = read ≡ None
Reads view (Err fault.NoMemory) read = Unit {0}

-- the same of trees in order
abbrev pub ReadsAll : Result (List Tree) TreeFault → Option Trees → Type 0
ReadsAll result read = Reads (λ trees. model.trees_of (map shape trees)) result read

-- the name of an element, if its first item is a string
abbrev pub name_at : Items → Option Text
name_at (item (string name) ds) = Some (chars name)
name_at ds = None
