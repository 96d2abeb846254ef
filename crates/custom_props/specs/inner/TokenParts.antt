-- What tells the types of tokens from one another: a kind, a text and a number.
use Rattle.std.specs.Prelude.{Option, Some, None}
use Rattle.css_model.specs.declared.token.Number.{Number as Value}
use Rattle.css_model.specs.declared.token.TokenType.{TokenType}
use Rattle.css_model.specs.declared.token.TokenType.TheVariants.{Ident, Function, AtKeyword, Hash, String, BadString, Url, BadUrl, Delim, Number, Percentage, Dimension, Whitespace, Cdo, Cdc, Colon, Semicolon, Comma, Opening, Closing}
use Rattle.css_model.specs.Classes.{Text}
use Rattle.custom_props.specs.declared.token_kind.TokenKind.{TokenKind}
use Rattle.custom_props.specs.declared.token_kind.TokenKind.TheVariants as kinds

abbrev pub kind_of : TokenType → TokenKind
kind_of (Ident name) = kinds.Ident
kind_of (Function name) = kinds.Function
kind_of (AtKeyword name) = kinds.AtKeyword
kind_of (Hash name is_id) = kinds.Hash is_id
kind_of (String s) = kinds.String
kind_of BadString = kinds.BadString
kind_of (Url url) = kinds.Url
kind_of BadUrl = kinds.BadUrl
kind_of (Delim c) = kinds.Delim c
kind_of (Number n) = kinds.Number
kind_of (Percentage n) = kinds.Percentage
kind_of (Dimension n unit) = kinds.Dimension
kind_of Whitespace = kinds.Whitespace
kind_of Cdo = kinds.Cdo
kind_of Cdc = kinds.Cdc
kind_of Colon = kinds.Colon
kind_of Semicolon = kinds.Semicolon
kind_of Comma = kinds.Comma
kind_of (Opening b) = kinds.Opening b
kind_of (Closing b) = kinds.Closing b

abbrev pub text_of : TokenType → Option Text
text_of (Ident name) = Some name
text_of (Function name) = Some name
text_of (AtKeyword name) = Some name
text_of (Hash name is_id) = Some name
text_of (String s) = Some s
text_of (Url url) = Some url
text_of (Dimension n unit) = Some unit
text_of other = None

abbrev pub number_of : TokenType → Option Value
number_of (Number n) = Some n
number_of (Percentage n) = Some n
number_of (Dimension n unit) = Some n
number_of other = None
