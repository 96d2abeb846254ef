-- Values that have the same parts are the same.
use Rattle.std.proofs.Common.{◌≡◌, ◌∙◌, ap, sym, refl, Option, Some, option_map, option_and_then}
use Rattle.std.proofs.lemmas.Option.{same_Some}
use Rattle.css_model.specs.declared.token.Number.{Number as Value}
use Rattle.css_model.specs.declared.token.TokenType.{TokenType}
use Rattle.css_model.specs.declared.token.TokenType.TheVariants.{Ident, Function, AtKeyword, Hash, String, BadString, Url, BadUrl, Delim, Number, Percentage, Dimension, Whitespace, Cdo, Cdc, Colon, Semicolon, Comma, Opening, Closing}
use Rattle.css_model.specs.Classes.{Text}
use Rattle.custom_props.specs.declared.token_kind.TokenKind.{TokenKind}
use Rattle.custom_props.specs.declared.token_kind.TokenKind.TheVariants as kinds
use Rattle.custom_props.specs.inner.TokenParts.{kind_of, number_of, text_of}

-- ---- types of tokens

abbrev type_of : TokenKind → Option Text → Option Value → Option TokenType
type_of kinds.Ident t n = option_map (λ s. Ident s) t
type_of kinds.Function t n = option_map (λ s. Function s) t
type_of kinds.AtKeyword t n = option_map (λ s. AtKeyword s) t
type_of (kinds.Hash is_id) t n = option_map (λ s. Hash s is_id) t
type_of kinds.String t n = option_map (λ s. String s) t
type_of kinds.BadString t n = Some BadString
type_of kinds.Url t n = option_map (λ s. Url s) t
type_of kinds.BadUrl t n = Some BadUrl
type_of (kinds.Delim c) t n = Some (Delim c)
type_of kinds.Number t n = option_map (λ m. Number m) n
type_of kinds.Percentage t n = option_map (λ m. Percentage m) n
type_of kinds.Dimension t n = option_and_then (λ m. option_map (λ s. Dimension m s) t) n
type_of kinds.Whitespace t n = Some Whitespace
type_of kinds.Cdo t n = Some Cdo
type_of kinds.Cdc t n = Some Cdc
type_of kinds.Colon t n = Some Colon
type_of kinds.Semicolon t n = Some Semicolon
type_of kinds.Comma t n = Some Comma
type_of (kinds.Opening b) t n = Some (Opening b)
type_of (kinds.Closing b) t n = Some (Closing b)

of-parts : (t : TokenType) → type_of (kind_of t) (text_of t) (number_of t) ≡ Some t
of-parts (Ident name) = refl
of-parts (Function name) = refl
of-parts (AtKeyword name) = refl
of-parts (Hash name is_id) = refl
of-parts (String s) = refl
of-parts BadString = refl
of-parts (Url url) = refl
of-parts BadUrl = refl
of-parts (Delim c) = refl
of-parts (Number n) = refl
of-parts (Percentage n) = refl
of-parts (Dimension n unit) = refl
of-parts Whitespace = refl
of-parts Cdo = refl
of-parts Cdc = refl
of-parts Colon = refl
of-parts Semicolon = refl
of-parts Comma = refl
of-parts (Opening b) = refl
of-parts (Closing b) = refl

pub same_type : (t u : TokenType) → kind_of t ≡ kind_of u → text_of t ≡ text_of u → number_of t ≡ number_of u → t ≡ u
same_type t u k s n =
    same_Some t u (sym (of-parts t)
    ∙ (ap (λ x. type_of x (text_of t) (number_of t)) k
    ∙ (ap (λ x. type_of (kind_of u) x (number_of t)) s
    ∙ (ap (λ x. type_of (kind_of u) (text_of u) x) n ∙ of-parts u))))
