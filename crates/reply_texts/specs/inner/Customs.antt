-- Custom properties one place, and one token, at a time.
use Rattle.std.specs.Prelude.{ℕ, ◌&&◌, List, [], ◌∷◌, ◌++◌, flat_map, if◌then◌else◌, slice_get, Option, Some, None, Bool, false}
use Rattle.std.specs.List.{list_all}
use Rattle.css_model.specs.Classes.{Text, space}
use Rattle.css_model.specs.Components.{Components, all_tokens_of, tokens_of}
use Rattle.css_model.specs.declared.token.Token.{Token}
use Rattle.css_tokens.specs.Nested.{component_view, components_view}
use Rattle.css_tokens.specs.declared.component.Component.{Component}
use Rattle.custom_model.specs.NamedValues.{NamedValues}
use Rattle.reply_model.specs.Spelling.{in_quotes}
use Rattle.reply_model.specs.StyleText.{custom_line}
use Rattle.rules_model.specs.ComponentLists.{is_whitespace_type}

-- ---- lines

abbrev pub line_of : Text → Option Components → List ℕ
line_of name None = []
line_of name (Some value) = custom_line name value

abbrev pub line_of_entry : Option (Text × Components) → List ℕ
line_of_entry None = []
line_of_entry (Some e) = custom_line e.0 e.1

-- the line of the name in a place
abbrev pub line_at : NamedValues → ℕ → List ℕ
line_at values place = line_of_entry (slice_get values place)

-- ---- tokens

abbrev pub component_tokens : Component → List Token
component_tokens c = tokens_of (component_view c)

abbrev pub components_tokens : List Component → List Token
components_tokens cs = all_tokens_of (components_view cs)

-- a spelling, after a space unless it is the first
abbrev pub spelling_after : Bool → Text → Text
spelling_after first spelling = if first then spelling else space ∷ spelling

abbrev pub is_white : Token → Bool
is_white t = is_whitespace_type t.token_type

-- the spellings of tokens but white space in quotes, each after a space unless it is the first
abbrev pub all_tokens_after : Bool → List Token → List ℕ
all_tokens_after first [] = []
all_tokens_after first (t ∷ ts) =
    if is_white t then all_tokens_after first ts
    else flat_map in_quotes (spelling_after first t.spelling) ++ all_tokens_after false ts

-- the next one is the first still
abbrev pub is_first_after : Bool → List Token → Bool
is_first_after first ts = first && list_all is_white ts
