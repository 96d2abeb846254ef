-- Where a name stands in names in order.
use Rattle.std.specs.Prelude.{ℕ, suc, List, [], ◌∷◌, if◌then◌else◌, Option, Some, None, option_map}
use Rattle.std.specs.declared.cmp.Ordering.TheVariants.{Less, Equal, Greater}
use Rattle.std.specs.declared.cmp.Ordering.{Ordering}
use Rattle.css_model.specs.Classes.{Text}
use Rattle.page_model.specs.Attributes.{is_less_text, is_same_text}

-- how a text stands to another in the order by code points
abbrev pub order_of : Text → Text → Ordering
order_of cs ds = if is_same_text cs ds then Equal else if is_less_text cs ds then Less else Greater

-- the place of a name, the first where it stands more than once
abbrev pub place_of : Text → List Text → Option ℕ
place_of name [] = None
place_of name (n ∷ names) = if is_same_text name n then Some 0 else option_map suc (place_of name names)
