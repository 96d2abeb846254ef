-- The pieces of a text, by the one that was found in front.
use Rattle.std.proofs.Common.{true, false, ◌≡◌, ◌∙◌, ap, refl, sym, subst, ℕ, zero, suc, pred, ◌+◌, ◌-◌, ◌<◌, ◌≤◌, List, ◌∷◌, ◌++◌, length, take, drop, length-append, arith}
use Rattle.std.specs.Prelude.{Result, Ok, Err, IfOk}
use Rattle.std.specs.Str.{chars}
use Rattle.css_model.specs.Preprocessing.{preprocessed}
use Rattle.std.proofs.Math.Seq.{take-append_seam, drop-append_seam}
use Rattle.css_model.specs.Classes.{Text, is_whitespace, is_quote}
use Rattle.css_model.specs.declared.token.Token.{Token}
use Rattle.css_model.specs.TokenList as model
use Rattle.css_model.specs.TokenList.{piece_text, tokens_from, IsTokenList}
use Rattle.css_model.specs.inner.Pieces.{consume_string, first_piece, pieces}
use Rattle.css_model.proofs.Laws.{IsFirst, pieces-cons}
use Rattle.css_model.proofs.FirstPieces.{pieces-first}
use Rattle.css_model.proofs.NumberPieces.{numbers-first, tokens-are-tokens}
use Rattle.css_tokens.specs.declared.piece.Piece.{Piece}
use Rattle.css_tokens.specs.inner.Found.{type_of, IsFound, tokens_of_type}
use Rattle.css_tokens.specs.inner.Texts.{IsRest, front_of}

is-first : (c : ℕ) (cs : Text) → IsFirst (first_piece c cs) (c ∷ cs)
is-first c cs = pieces-first numbers-first c cs

-- a text that begins with a quote begins with a string
pub string-first : (c : ℕ) (cs : Text) → is_whitespace c ≡ false → is_quote c ≡ true → first_piece c cs ≡ consume_string c cs
string-first c cs f t = rw (f, t) refl

drop-pred : (n c : ℕ) (cs : Text) → 1 ≤ n → drop (pred n) cs ≡ drop n (c ∷ cs)
drop-pred zero c cs h = absurd (omega (arith, h))
drop-pred (suc n) c cs h = refl

-- ---- the tokens of a text, by its first piece

first-tokens : (first : model.Piece) (at : ℕ) (ps : List model.Piece) → tokens_from at (first ∷ ps) ≡ tokens_of_type (type_of first) at (piece_text first) ++ tokens_from (at + length (piece_text first)) ps
first-tokens (model.comment s) at ps = refl
first-tokens (model.token token_type s) at ps = refl

-- the first piece of a text was found
pub record Step (text : Text) (start : ℕ) (p : Piece) : Type 0 where
  pub rest : IsRest text (chars p.rest.now)
  pub shorter : length (chars p.rest.now) < length text
  pub size : length (front_of text (chars p.rest.now)) + length (chars p.rest.now) ≡ length text
  pub tokens : tokens_from start (pieces text) ≡ tokens_of_type p.token_type start (front_of text (chars p.rest.now))
      ++ tokens_from (start + length (front_of text (chars p.rest.now))) (pieces (chars p.rest.now))

pub found-step : (c : ℕ) (cs : Text) (start : ℕ) (p : Piece) → IsFound p (first_piece c cs) (c ∷ cs) → Step (c ∷ cs) start p
found-step c cs start p is =
    let text : Text = c ∷ cs in
    let first : model.Piece = first_piece c cs in
    let xs : Text = piece_text first in
    let r : Text = chars p.rest.now in
    let law : IsFirst first text = is-first c cs in
    let there : r ≡ law.rest = is.1 ∙ (ap (drop (length xs)) (sym law.joins) ∙ drop-append_seam xs law.rest) in
    let whole : length xs + length r ≡ length text = ap (λ l. length xs + length l) there ∙ (sym (length-append xs law.rest) ∙ ap length law.joins) in
    let count : length text - length r ≡ length xs = omega (arith, whole) in
    let front : front_of text r ≡ xs = ap (λ n. take n text) count ∙ (ap (take (length xs)) (sym law.joins) ∙ take-append_seam xs law.rest) in
    let all : pieces text ≡ first ∷ pieces r = pieces-cons c cs ∙ ap (λ l. first ∷ pieces l) (drop-pred (length xs) c cs law.some ∙ sym is.1) in
    record {
      rest = is.1 ∙ ap (λ n. drop n text) (sym count);
      shorter = omega (arith, whole, law.some);
      size = ap (λ l. length l + length r) front ∙ whole;
      tokens = ap (tokens_from start) all ∙ (first-tokens first start (pieces r)
          ∙ (ap (λ k. tokens_of_type k start xs ++ tokens_from (start + length xs) (pieces r)) (sym is.0)
          ∙ ap (λ l. tokens_of_type p.token_type start l ++ tokens_from (start + length l) (pieces r)) (sym front)));
    }

-- the same of a text that begins with c
pub text-step : (text : Text) (c : ℕ) (cs : Text) (start : ℕ) (p : Piece) → text ≡ c ∷ cs → IsFound p (first_piece c cs) (c ∷ cs) → Step text start p
text-step text c cs start p e is = subst (λ l. Step l start p) (sym e) (found-step c cs start p is)

-- the computed tokens of a text are its token list
pub token-list : {E : Type 0} (r : Result (List Token) E) (text cs : Text) → cs ≡ preprocessed (chars text) → IfOk r (λ ts. ts ≡ tokens_from 0 (pieces cs)) → IfOk r (λ ts. IsTokenList (chars text) (ts))
token-list (Ok ts) text cs e h = subst (λ (xs : List Token). IsTokenList (chars text) xs) (sym (h ∙ ap (λ xs. tokens_from 0 (pieces xs)) e)) (tokens-are-tokens (chars text))
token-list (Err e) text cs p h = tt
