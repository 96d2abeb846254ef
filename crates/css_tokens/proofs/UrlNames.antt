-- The quote that follows the name of urls.
use Rattle.std.proofs.Common.{◌≡◌, ◌∙◌, ap, refl, sym, subst, ℕ, ◌<◌, ◌≤◌, List, [], ◌∷◌, length, get_or, drop, map, encode_utf8_all, Bool, true, false, ◌||◌, ◌&&◌, ◌==◌, eqb-true, arith, inl, inr}
use Rattle.std.proofs.lemmas.Bool.{cases_Bool}
use Rattle.css_model.specs.Classes.{Text, is_whitespace, is_quote, is_newline, begins}
use Rattle.css_model.specs.Spellings.{quote_follows}
use Rattle.css_model.specs.inner.Fronts.{run_in}
use Rattle.css_model.proofs.Tests.{or-cases, pick-true, pick-false}

white-no_quote : (c : ℕ) → is_whitespace c ≡ true → is_quote c ≡ false
white-no_quote c h = elim (or-cases (is_newline c) ((c == 9) || (c == 32)) h) [
  | inl t ↦ subst (λ x. is_quote x ≡ false) (sym (eqb-true c 10 t)) refl
  | inr t ↦ elim (or-cases (c == 9) (c == 32) t) [
    | inl u ↦ subst (λ x. is_quote x ≡ false) (sym (eqb-true c 9 u)) refl
    | inr u ↦ subst (λ x. is_quote x ≡ false) (sym (eqb-true c 32 u)) refl
  ]
]

or-false : (b : Bool) → (b || false) ≡ b
or-false true = refl
or-false false = refl

pub quote-behind_white : (cs : Text) → quote_follows cs ≡ begins is_quote (drop (length (run_in is_whitespace cs)) cs)
quote-behind_white [] = refl
quote-behind_white (c ∷ cs) = elim (cases_Bool (is_whitespace c)) [
  | inl t ↦
      let none : is_quote c ≡ false = white-no_quote c t in
      let here : (is_quote c || (is_whitespace c && quote_follows cs)) ≡ quote_follows cs = ap (λ b. b || (is_whitespace c && quote_follows cs)) none ∙ ap (λ b. b && quote_follows cs) t in
      let run : run_in is_whitespace (c ∷ cs) ≡ c ∷ run_in is_whitespace cs = pick-true (is_whitespace c) (c ∷ run_in is_whitespace cs) [] t in
      here ∙ (quote-behind_white cs ∙ sym (ap (λ xs. begins is_quote (drop (length xs) (c ∷ cs))) run))
  | inr f ↦
      let here : (is_quote c || (is_whitespace c && quote_follows cs)) ≡ is_quote c = ap (λ b. is_quote c || (b && quote_follows cs)) f ∙ or-false (is_quote c) in
      let run : run_in is_whitespace (c ∷ cs) ≡ [] = pick-false (is_whitespace c) (c ∷ run_in is_whitespace cs) [] f in
      here ∙ sym (ap (λ xs. begins is_quote (drop (length xs) (c ∷ cs))) run)
]
