-- For each property the declaration that wins, and the one that wins among those of the user agent; and
-- those that win for custom properties.
use Rattle.std.specs.Prelude.{◌≡◌, List, ◌++◌}
use Rattle.cascade_model.specs.Applied as model
use Rattle.cascade_model.specs.Cascaded.{without_author}
use Rattle.cascade_core.specs.Tables.{IsTable}
use Rattle.cascade_core.specs.declared.winners.BothTables.{BothTables}
use Rattle.cascade_core.specs.inner.Customs.{AreCustoms}

-- the winners of these declarations
pub record AreWinners (tables : BothTables) (ds : List model.Applied) : Type 0 where
  pub all : IsTable tables.all ds
  pub user_agent : IsTable tables.user_agent (without_author ds)
  pub customs : AreCustoms tables.customs.entries.items ds

-- winners of declarations before, and then of those with these at the end
abbrev pub Takes : BothTables → BothTables → List model.Applied → Type 0
Takes old new added = (ds : List model.Applied) → AreWinners old ds → AreWinners new (ds ++ added)

-- of all declarations these are left
abbrev pub Reaches : BothTables → BothTables → (all rest : List model.Applied) → Type 0
Reaches old new all rest = (ds : List model.Applied) → AreWinners old ds
    → (front : List model.Applied) × AreWinners new front × (front ++ rest ≡ ds ++ all)
