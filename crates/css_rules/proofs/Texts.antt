-- The component values of a text are the ones that are read.
use Rattle.std.proofs.Common.{◌≡◌, ◌∙◌, ap, refl, ◌≤◌, ◌<◌, ℕ, List, [], length, encode_utf8_all, Some, None, false, if◌then◌else◌}
use Rattle.std.specs.Prelude.{nat_lt}
use Rattle.std.proofs.lemmas.Bool.{lt-ltb, le-ltb}
use Rattle.css_model.specs.declared.token.Token.{Token}
use Rattle.css_model.specs.declared.token.TheConstants.{MAX_NESTING}
use Rattle.css_model.specs.Classes.{Text}
use Rattle.css_model.specs.Components.{Components, IsComponents, depths}
use Rattle.css_model.specs.TokenList.{IsTokenList}
use Rattle.css_model.specs.inner.Nesting.{nesting}
use Rattle.std.specs.Str.{chars, IsUtf8}
use Rattle.std.proofs.lemmas.Str.{encodes-chars}
use Rattle.rules_model.specs.declared.limits.TheConstants.{MAX_SHEET_BYTES, MAX_STYLE_RULES}
use Rattle.rules_model.specs.declared.sheet_limit.SheetLimit.TheVariants.{TooLarge, TooDeep, TooManyRules}
use Rattle.css_laws.proofs.OneNesting.{components-are}
use Rattle.css_laws.proofs.OneTokenList.{token_list-is}
use Rattle.rules_model.specs.Declarations.{declarations_of}
use Rattle.rules_model.specs.Sheets.{components_of, style_rules_of, style_attr_of, limit_of_sheet}

pub components-text : (text : Text) (ts : List Token) (cs : Components) → IsTokenList text ts
    → IsComponents ts cs → cs ≡ components_of text
components-text text ts cs t c = components-are ts cs c ∙ ap nesting (token_list-is text ts t)

pub style-read : (text : Text) (cs : Components) → cs ≡ components_of text → depths cs ≤ MAX_NESTING
    → declarations_of cs ≡ style_attr_of text
style-read text cs is d =
    let low : nat_lt MAX_NESTING (depths cs) ≡ false = le-ltb MAX_NESTING (depths cs) d in
    let here : declarations_of cs ≡ if nat_lt MAX_NESTING (depths cs) then []
    else declarations_of cs = rw low refl in
    here ∙ ap (λ ds. if nat_lt MAX_NESTING (depths ds) then [] else declarations_of ds) is

pub style-deep : (text : Text) → MAX_NESTING < depths (components_of text) → [] ≡ style_attr_of text
style-deep text d = rw (lt-ltb MAX_NESTING (depths (components_of text)) d) refl

-- ---- limits

-- a text in its bytes
pub bytes-length : (bytes : List ℕ) → IsUtf8 bytes
    → length (encode_utf8_all (chars bytes)) ≡ length bytes
bytes-length bytes u = ap length (encodes-chars bytes u)

pub limit-large : (text : Text) → MAX_SHEET_BYTES < length (encode_utf8_all text)
    → limit_of_sheet text ≡ Some TooLarge
limit-large text l = rw (lt-ltb MAX_SHEET_BYTES (length (encode_utf8_all text)) l) refl

pub limit-deep : (text : Text) → length (encode_utf8_all text) ≤ MAX_SHEET_BYTES
    → MAX_NESTING < depths (components_of text)
    → limit_of_sheet text ≡ Some TooDeep
limit-deep text b l =
    rw (
      le-ltb MAX_SHEET_BYTES (length (encode_utf8_all text)) b,
      lt-ltb MAX_NESTING (depths (components_of text)) l,
    ) refl

pub limit-many : (text : Text) → length (encode_utf8_all text) ≤ MAX_SHEET_BYTES
    → depths (components_of text) ≤ MAX_NESTING
    → MAX_STYLE_RULES < length (style_rules_of text) → limit_of_sheet text ≡ Some TooManyRules
limit-many text b d l =
    rw (
      le-ltb MAX_SHEET_BYTES (length (encode_utf8_all text)) b,
      le-ltb MAX_NESTING (depths (components_of text)) d,
      lt-ltb MAX_STYLE_RULES (length (style_rules_of text)) l,
    ) refl

pub limit-none : (text : Text) → length (encode_utf8_all text) ≤ MAX_SHEET_BYTES
    → depths (components_of text) ≤ MAX_NESTING
    → length (style_rules_of text) ≤ MAX_STYLE_RULES → limit_of_sheet text ≡ None
limit-none text b d l =
    rw (
      le-ltb MAX_SHEET_BYTES (length (encode_utf8_all text)) b,
      le-ltb MAX_NESTING (depths (components_of text)) d,
      le-ltb MAX_STYLE_RULES (length (style_rules_of text)) l,
    ) refl
