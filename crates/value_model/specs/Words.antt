-- Component values as a list, without the white space between them.
use Rattle.std.specs.Prelude.{if◌then◌else◌, List, [], ◌∷◌, Option, Some, None}
use Rattle.css_model.specs.Components.{Component, Components, no_components, component}
use Rattle.rules_model.specs.ComponentLists.{is_whitespace}

-- component values without the white space between them
abbrev pub words_of : Components → List Component
words_of no_components = []
words_of (component c cs) = if is_whitespace c then words_of cs else c ∷ words_of cs

-- the one of a list of one
abbrev pub only_of : {X : Type 0} → List X → Option X
only_of (x ∷ []) = Some x
only_of xs = None
