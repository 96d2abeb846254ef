-- What is left of a text while it is cut into tokens.
use Rattle.std.specs.Prelude.{◌+◌, ◌^◌, ◌<◌, List, length}
use Rattle.std.specs.Str.{chars}
use Rattle.css_model.specs.declared.token.Token.{Token}
use Rattle.css_model.specs.TokenList.{tokens_from}
use Rattle.css_model.specs.inner.Pieces.{pieces}
use Rattle.css_tokens.specs.declared.tokenizer.Left.{Left}

-- the places of the tokens that are left are numbers of 64 bits
abbrev pub IsWithin : Left → Type 0
IsWithin left = left.start + length (chars left.text.now) < 2 ^ 64

-- the tokens that are left
abbrev pub tokens_left : Left → List Token
tokens_left left = tokens_from left.start (pieces (chars left.text.now))
