-- Where the attribute with a name stands in the order of names.
use Rattle.std.specs.Prelude.{List, [], ◌∷◌, ℕ, ◌+◌, ◌<◌, ◌≤◌, if◌then◌else◌, length, Option, Some, None, slice_get, slice_set}
use Rattle.std.specs.List.{insert, remove}
use Rattle.std.specs.declared.cmp.Ordering.TheVariants.{Less, Equal, Greater}
use Rattle.std.specs.declared.cmp.Ordering.{Ordering}
use Rattle.page_model.specs.Attributes.{is_less_text, is_same_text}
use Rattle.page_model.specs.Trees.{Attribute, Text}
use Rattle.dom_arena.specs.declared.spots.Spot.{Spot}
use Rattle.dom_arena.specs.declared.spots.Spot.TheVariants.{At, Before}

-- how a text stands to another in the order by code points
abbrev pub order_of : Text → Text → Ordering
order_of cs ds = if is_same_text cs ds then Equal else if is_less_text cs ds then Less else Greater

-- the same spot, where `k` more stand before it
abbrev pub behind : ℕ → Spot → Spot
behind k (At i) = At (k + i)
behind k (Before i) = Before (k + i)

-- the spot of the attribute `name`, or the one that it would get
abbrev pub spot_of : Text → List Attribute → Spot
spot_of name [] = Before 0
spot_of name (a ∷ attributes) =
    if is_same_text name a.0 then At 0
    else if is_less_text name a.0 then Before 0
    else behind 1 (spot_of name attributes)

-- the spot is in the list, or right behind it
abbrev pub IsWithin : Spot → ℕ → Type 0
IsWithin (At i) n = i < n
IsWithin (Before i) n = i ≤ n

-- the attributes with this one at the spot
abbrev pub attributes_with : Spot → Attribute → List Attribute → List Attribute
attributes_with (At i) a attributes = slice_set attributes i a
attributes_with (Before i) a attributes = insert attributes i a

-- the attributes without the one at the spot
abbrev pub attributes_without : Spot → List Attribute → List Attribute
attributes_without (At i) attributes = remove attributes i
attributes_without (Before i) attributes = attributes

-- how many attributes there are with the one at the spot
abbrev pub count_with : Spot → ℕ → ℕ
count_with (At i) n = n
count_with (Before i) n = n + 1

-- how many code points the value at the spot has
abbrev pub value_length : Option Attribute → ℕ
value_length None = 0
value_length (Some a) = length a.1

abbrev pub length_at : Spot → List Attribute → ℕ
length_at (At i) attributes = value_length (slice_get attributes i)
length_at (Before i) attributes = 0
