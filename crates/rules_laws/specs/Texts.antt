-- The component values of a text, by what they are and not by how they are found.
use Rattle.std.specs.Prelude.{List}
use Rattle.css_model.specs.declared.token.Token.{Token}
use Rattle.css_model.specs.Classes.{Text}
use Rattle.css_model.specs.Components.{Components, IsComponents}
use Rattle.css_model.specs.TokenList.{IsTokenList}

-- the components of the tokens of a text
pub record AreComponentsOf (text : Text) (components : Components) : Type 0 where
  pub tokens : List Token
  pub are_tokens : IsTokenList text tokens
  pub are_components : IsComponents tokens components
