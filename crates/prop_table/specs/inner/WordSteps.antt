-- Lists of words, read one after another.
use Rattle.std.specs.Prelude.{if◌then◌else◌, List, [], ◌∷◌, ◌++◌, Option, Some, None, option_map, option_and_then}
use Rattle.css_model.specs.Components.{Component}
use Rattle.rules_model.specs.ComponentLists.{ident_of, is_whitespace}
use Rattle.value_model.specs.declared.containment.Containment.{Containment}
use Rattle.value_model.specs.Forms.{with_containment}
use Rattle.value_model.specs.Words.{only_of}

-- with one more component value in front
abbrev pub containment_with : Component → Option Containment → Option Containment
containment_with c found =
    if is_whitespace c then found
    else option_and_then (λ name. option_and_then (with_containment name) found) (ident_of c)

-- more after a front, if there is more
abbrev pub after : {X : Type 0} → List X → Option (List X) → Option (List X)
after front more = option_map (λ xs. front ++ xs) more

-- what the one of a list of one is
abbrev pub alone : {X Y : Type 0} → (X → Option Y) → List X → Option Y
alone f words = option_and_then f (only_of words)

-- one more after others, if all are there
abbrev pub behind : {X : Type 0} → Option (List X) → Option X → Option (List X)
behind (Some xs) (Some x) = Some (xs ++ x ∷ [])
behind xs x = None
