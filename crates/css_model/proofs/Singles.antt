-- Tokens of one code point.
use Rattle.std.proofs.Common.{◌≡◌, ◌∙◌, sym, ap, refl, subst, ℕ, ◌==◌, List, [], ◌∷◌, Bool, true, false, eqb-true, inl, inr}
use Rattle.std.proofs.lemmas.Bool.{cases_Bool, false≢true}
use Rattle.std.specs.List.{list_all}
use Rattle.std.specs.Map.{lookup}
use Rattle.std.specs.Option.{is_some, unwrap_or}
use Rattle.std.specs.Prelude.{Option, Some}
use Rattle.css_model.specs.declared.token.TokenType.{TokenType}
use Rattle.css_model.specs.declared.token.TokenType.TheVariants.{Colon, Semicolon, Comma, Opening, Closing}
use Rattle.css_model.specs.Classes.{Text}
use Rattle.css_model.specs.Spellings.{singles, single_of, IsSingle, Spells}
use Rattle.css_model.proofs.Tests.{and-left, and-right, pick-true, pick-false}

-- what passes for each row of a table passes for the row that is found
pub row-found : (check : ℕ → TokenType → Bool) (rows : List (ℕ × TokenType))
    → list_all (λ row. check row.0 row.1) rows ≡ true → (c : ℕ) (token_type : TokenType)
    → lookup (λ d. c == d) rows ≡ Some token_type → check c token_type ≡ true
row-found check [] a c token_type e = absurd (false≢true (ap is_some e))
row-found check (row ∷ rows) a c token_type e =
    let more : Option TokenType = lookup (λ d. c == d) rows in
    let here : check row.0 row.1 ≡ true = and-left (check row.0 row.1) (list_all (λ r. check r.0 r.1) rows) a in
    let others : list_all (λ r. check r.0 r.1) rows ≡ true =
    and-right (check row.0 row.1) (list_all (λ r. check r.0 r.1) rows) a in
    elim (cases_Bool (c == row.0)) [
      | inl t ↦
          let found : Some row.1 ≡ Some token_type = sym (pick-true (c == row.0) (Some row.1) more t) ∙ e in
          let same : row.1 ≡ token_type = ap (λ o. unwrap_or o token_type) found in
          subst (λ k. check c k ≡ true) same (subst (λ d. check d row.1 ≡ true) (sym (eqb-true c row.0 t)) here)
      | inr f ↦ row-found check rows others c token_type (sym (pick-false (c == row.0) (Some row.1) more f) ∙ e)
    ]

-- ---- what they spell

abbrev is_single_type : TokenType → Bool
is_single_type Colon = true
is_single_type Semicolon = true
is_single_type Comma = true
is_single_type (Opening b) = true
is_single_type (Closing b) = true
is_single_type other = false

single-spells : (token_type : TokenType) → is_single_type token_type ≡ true → (s rest : Text) → IsSingle token_type s
    → Spells token_type s rest
single-spells Colon e s rest i = i
single-spells Semicolon e s rest i = i
single-spells Comma e s rest i = i
single-spells (Opening b) e s rest i = i
single-spells (Closing b) e s rest i = i
single-spells other e s rest i = cc

pub singles-spell : (c : ℕ) (token_type : TokenType) (rest : Text) → single_of c ≡ Some token_type
    → Spells token_type (c ∷ []) rest
singles-spell c token_type rest e =
    single-spells token_type (row-found (λ d k. is_single_type k) singles refl c token_type e) (c ∷ []) rest
    (record { c = c; spelling = refl; is = e })
