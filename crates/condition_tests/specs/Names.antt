-- Features that are one identifier in round brackets.
use Rattle.std.specs.Prelude.{if◌then◌else◌, codes, Option, None, Bool}
use Rattle.std.specs.Str.{bytes_eq, chars}
use Rattle.css_model.specs.Classes.{Text}
use Rattle.css_model.specs.Components.{Component, simple_block, Components, no_components, component}
use Rattle.conditions_model.specs.declared.tri.Tri.{Tri}
use Rattle.conditions_model.specs.declared.tri.Tri.TheVariants.{Yes, No, Unknown}
use Rattle.rules_model.specs.ComponentLists.{ident_of}

-- the identifier that component values are, if they are one
abbrev pub only_ident : Components → Option Text
only_ident (component c no_components) = ident_of c
only_ident other = None

abbrev pub name_of : Component → Option Text
name_of (simple_block head contents close) = only_ident contents
name_of other = None

abbrev pub is_name : Text → Text → Bool
is_name word name = bytes_eq name (chars word)

-- the features of a device
abbrev pub value_of : Text → Tri
value_of name =
    if is_name (codes "hover") name then Yes
    else if is_name (codes "color") name then No
    else if is_name (codes "pointer") name then No
    else Unknown
