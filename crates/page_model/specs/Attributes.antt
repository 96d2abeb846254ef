-- The attributes of an element: a list in the order of their names, each name once (DOM section 4.9).
use Rattle.std.specs.Prelude.{Bool, List, None, Option, Some, [], false, if◌then◌else◌, nat_lt, true, ◌&&◌, ◌==◌, ◌∷◌}
use Rattle.page_model.specs.Trees.{Attribute, Text}

-- whether two texts have the same code points
abbrev pub is_same_text : Text → Text → Bool
is_same_text [] [] = true
is_same_text [] (d ∷ ds) = false
is_same_text (c ∷ cs) [] = false
is_same_text (c ∷ cs) (d ∷ ds) = (c == d) && is_same_text cs ds

-- whether a text is less than another, by the first code points that differ
abbrev pub is_less_text : Text → Text → Bool
is_less_text [] [] = false
is_less_text [] (d ∷ ds) = true
is_less_text (c ∷ cs) [] = false
is_less_text (c ∷ cs) (d ∷ ds) = if c == d then is_less_text cs ds else nat_lt c d

-- whether each name is less than the next
abbrev pub are_in_order : List Attribute → Bool
are_in_order [] = true
are_in_order (a ∷ []) = true
are_in_order (a ∷ b ∷ attributes) = is_less_text a.0 b.0 && are_in_order (b ∷ attributes)

-- the value of the attribute with this name
abbrev pub value_of : Text → List Attribute → Option Text
value_of name [] = None
value_of name (a ∷ attributes) = if is_same_text name a.0 then Some a.1 else value_of name attributes

-- the attributes in which the one with this name has this value; where there is none yet, it stands in its order
abbrev pub with_attribute : Text → Text → List Attribute → List Attribute
with_attribute name value [] = (name, value) ∷ []
with_attribute name value (a ∷ attributes) =
    if is_same_text name a.0 then (name, value) ∷ attributes
    else if is_less_text name a.0 then (name, value) ∷ a ∷ attributes
    else a ∷ with_attribute name value attributes

-- the attributes without the one with this name
abbrev pub without_attribute : Text → List Attribute → List Attribute
without_attribute name [] = []
without_attribute name (a ∷ attributes) =
    if is_same_text name a.0 then without_attribute name attributes else a ∷ without_attribute name attributes
