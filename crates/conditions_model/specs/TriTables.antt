-- Kleene's tables (Media Queries 4, section 3.1).
use Rattle.std.specs.Prelude.{Bool, true, false}
use Rattle.conditions_model.specs.declared.tri.Tri.{Tri}
use Rattle.conditions_model.specs.declared.tri.Tri.TheVariants.{Yes, No, Unknown}

abbrev pub tri_not : Tri → Tri
tri_not Yes = No
tri_not No = Yes
tri_not Unknown = Unknown

abbrev pub tri_and : Tri → Tri → Tri
tri_and No v = No
tri_and Yes v = v
tri_and Unknown No = No
tri_and Unknown Yes = Unknown
tri_and Unknown Unknown = Unknown

abbrev pub tri_or : Tri → Tri → Tri
tri_or Yes v = Yes
tri_or No v = v
tri_or Unknown Yes = Yes
tri_or Unknown No = Unknown
tri_or Unknown Unknown = Unknown

-- the value of what is known
abbrev pub tri : Bool → Tri
tri true = Yes
tri false = No

-- in the end Unknown counts as No
abbrev pub is_yes : Tri → Bool
is_yes Yes = true
is_yes No = false
is_yes Unknown = false
