-- What is seen of a store.
use Rattle.dom_arena.specs.declared.store.Store.{Store}
use Rattle.dom_arena.specs.Stores.{Kept}

abbrev pub kept : Store → Kept
kept s = record { slots = s.slots.items; table = s.table.items; free = s.free; live = s.live; code_points = s.code_points }
