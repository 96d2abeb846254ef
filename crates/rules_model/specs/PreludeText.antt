-- How a reply prints a prelude: the spellings of its tokens, without comments.
use Rattle.std.specs.Prelude.{if◌then◌else◌, codes, flat_map}
use Rattle.css_model.specs.declared.token.Token.{Token}
use Rattle.css_model.specs.Classes.{Text}
use Rattle.css_model.specs.Components.{Components, all_tokens_of}
use Rattle.rules_model.specs.ComponentLists.{is_whitespace_type}

-- a token as it is spelled, and white space as one space
abbrev pub token_text : Token → Text
token_text t = if is_whitespace_type t.token_type then codes " " else t.spelling

-- the text of a prelude; that of a rule has no white space at its ends
abbrev pub prelude_text : Components → Text
prelude_text prelude = flat_map token_text (all_tokens_of prelude)
