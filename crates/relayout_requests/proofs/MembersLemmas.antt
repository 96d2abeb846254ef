-- An object has as many members as its map has entries, and the texts of an array are read one after another.
use Rattle.std.proofs.Common.{◌≡◌, refl, List, [], ◌∷◌, ◌++◌, length, String, Option, option_map, arith}
use Rattle.std.specs.declared.alloc.Global.{Global}
use Rattle.serde_json.specs.declared.value.Value.{Value}
use Rattle.serde_json.specs.View.{members_view}
use Rattle.page_model.specs.Trees.{Text}
use Rattle.request_model.specs.Requests.{count}

pub count-members_view : (ms : List (String Global × Value)) → length ms ≡ count (members_view ms)
count-members_view [] = refl
count-members_view (m ∷ ms) = let rest = count-members_view ms in omega (arith, rest)

-- texts, and then those that were read
abbrev pub texts_behind : List Text → Option (List Text) → Option (List Text)
texts_behind front texts = option_map (λ rest. front ++ rest) texts
