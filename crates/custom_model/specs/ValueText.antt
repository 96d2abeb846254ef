-- How a reply prints the value of a custom property.
use Rattle.std.specs.Prelude.{not, List, map, filter}
use Rattle.std.specs.List.{join_with_byte}
use Rattle.css_model.specs.Classes.{Text, space}
use Rattle.css_model.specs.Components.{Components, all_tokens_of}
use Rattle.rules_model.specs.ComponentLists.{is_whitespace_type}

-- the spellings of tokens other than white space
abbrev pub spellings_of : Components → List Text
spellings_of value =
    map (λ t. t.spelling) (filter (λ t. not (is_whitespace_type t.token_type)) (all_tokens_of value))

-- the same, with one space between each two; a bracket that was left open is not closed
abbrev pub value_text : Components → Text
value_text value = join_with_byte space (spellings_of value)
