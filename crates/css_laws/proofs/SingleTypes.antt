-- The classes of single code points, and their one type.
use Rattle.std.proofs.Common.{◌≡◌, ◌∙◌, sym, ap, refl, ℕ, ◌==◌, [], ◌∷◌, ◌||◌, not, Bool, false}
use Rattle.std.specs.Option.{unwrap_or}
use Rattle.std.specs.Prelude.{Some}
use Rattle.css_model.specs.declared.token.TokenType.{TokenType}
use Rattle.css_model.specs.declared.token.TokenType.TheVariants.{Delim}
use Rattle.css_model.specs.Classes.{Text, backslash, is_digit, is_ident_start, is_whitespace, is_quote}
use Rattle.css_model.specs.Spellings.{singles, single_of, IsSingle}
use Rattle.css_model.specs.inner.Pieces.{single_type}
use Rattle.css_model.proofs.Tests.{or-false-left, or-false-right, not-true}
use Rattle.css_model.proofs.FirstStrings.{first_or}
use Rattle.css_model.proofs.Singles.{row-found}

-- ---- their classes

abbrev starts_or_escapes : ℕ → Bool
starts_or_escapes c = is_ident_start c || (c == backslash)

abbrev begins_longer : ℕ → Bool
begins_longer c = is_whitespace c || (is_quote c || (is_digit c || starts_or_escapes c))

-- no longer type begins with this code point
pub record NoOther (c : ℕ) : Type 0 where
  pub white : is_whitespace c ≡ false
  pub quote : is_quote c ≡ false
  pub digit : is_digit c ≡ false
  pub start : is_ident_start c ≡ false
  pub backslash : c == backslash ≡ false

no-other : (c : ℕ) → begins_longer c ≡ false → NoOther c
no-other c f =
    let a : is_quote c || (is_digit c || starts_or_escapes c) ≡ false =
    or-false-right (is_whitespace c) (is_quote c || (is_digit c || starts_or_escapes c)) f in
    let b : is_digit c || starts_or_escapes c ≡ false = or-false-right (is_quote c) (is_digit c || starts_or_escapes c) a in
    let d : starts_or_escapes c ≡ false = or-false-right (is_digit c) (starts_or_escapes c) b in
    record {
      white = or-false-left (is_whitespace c) (is_quote c || (is_digit c || starts_or_escapes c)) f;
      quote = or-false-left (is_quote c) (is_digit c || starts_or_escapes c) a;
      digit = or-false-left (is_digit c) (starts_or_escapes c) b;
      start = or-false-left (is_ident_start c) (c == backslash) d;
      backslash = or-false-right (is_ident_start c) (c == backslash) d;
    }

pub single-no_other : (c : ℕ) (token_type : TokenType) → single_of c ≡ Some token_type → NoOther c
single-no_other c token_type e =
    no-other c (not-true (begins_longer c) (row-found (λ d k. not (begins_longer d)) singles refl c token_type e))

-- ---- the type of a single code point

single_type-found : (c : ℕ) (token_type : TokenType) → single_of c ≡ Some token_type → single_type c ≡ token_type
single_type-found c token_type e = ap (λ found. unwrap_or found (Delim c)) e

pub single-is : (token_type : TokenType) (c : ℕ) (s : Text) → IsSingle token_type s → s ≡ c ∷ []
    → token_type ≡ single_type c
single-is token_type c s h e =
    sym (single_type-found h.c token_type h.is) ∙ ap (λ xs. single_type (first_or xs)) (sym h.spelling ∙ e)
