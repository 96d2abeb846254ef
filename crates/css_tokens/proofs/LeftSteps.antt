-- What is left of a text after a piece.
use Rattle.std.proofs.Common.{◌≡◌, ◌∙◌, ap, sym, ℕ, ◌+◌, ◌<◌, List, ◌++◌, length, append_assoc, arith}
use Rattle.std.specs.Prelude.{Result, Ok, Err, IfOk, OnOk}
use Rattle.std.specs.Str.{chars}
use Rattle.css_model.specs.declared.token.Token.{Token}
use Rattle.css_model.specs.TokenList.{tokens_from}
use Rattle.css_model.specs.inner.Pieces.{pieces}
use Rattle.css_tokens.specs.declared.piece.Piece.{Piece}
use Rattle.css_tokens.specs.declared.tokenizer.Left.{Left}
use Rattle.css_tokens.specs.inner.Found.{tokens_of_type}
use Rattle.css_tokens.specs.inner.Texts.{front_of}
use Rattle.css_tokens.specs.inner.Left.{IsWithin, tokens_left}
use Rattle.css_tokens.proofs.FoundPieces.{Step}

pub left-shorter : {E : Type 0} (r : Result Left E) (left : Left) (p : Piece) → Step (chars left.text.now) left.start p
    → IfOk r (λ next. next.text.now ≡ p.rest.now) → IfOk r (λ next. length (chars next.text.now) < length (chars left.text.now))
left-shorter (Ok next) left p step e = let same : length (chars next.text.now) ≡ length (chars p.rest.now) = ap (λ l. length (chars l)) e in omega (arith, step.shorter, same)
left-shorter (Err e) left p step t = tt

pub left-within : {E : Type 0} (r : Result Left E) (left : Left) (p : Piece) → Step (chars left.text.now) left.start p → IsWithin left
    → IfOk r (λ next. next.start ≡ left.start + length (front_of (chars left.text.now) (chars p.rest.now)))
    → IfOk r (λ next. next.text.now ≡ p.rest.now) → IfOk r IsWithin
left-within (Ok next) left p step h s e =
    let same : length (chars next.text.now) ≡ length (chars p.rest.now) = ap (λ l. length (chars l)) e in
    omega (arith, step.size, same, s, h)
left-within (Err e) left p step h s t = tt

pub left-tokens : {E : Type 0} (r : Result Left E) (left : Left) (p : Piece) (old new : List Token) → Step (chars left.text.now) left.start p
    → IfOk r (λ next. next.start ≡ left.start + length (front_of (chars left.text.now) (chars p.rest.now)))
    → IfOk r (λ next. next.text.now ≡ p.rest.now)
    → OnOk r (new ≡ old ++ tokens_of_type p.token_type left.start (front_of (chars left.text.now) (chars p.rest.now)))
    → IfOk r (λ next. new ++ tokens_left next ≡ old ++ tokens_left left)
left-tokens (Ok next) left p old new step s e kept =
    let here : List Token = tokens_of_type p.token_type left.start (front_of (chars left.text.now) (chars p.rest.now)) in
    let at : ℕ = left.start + length (front_of (chars left.text.now) (chars p.rest.now)) in
    let after : tokens_left next ≡ tokens_from at (pieces (chars p.rest.now)) =
    ap (λ n. tokens_from n (pieces (chars next.text.now))) s ∙ ap (λ l. tokens_from at (pieces (chars l))) e in
    ap (λ ts. ts ++ tokens_left next) kept ∙ (append_assoc old here (tokens_left next)
    ∙ (ap (λ ts. old ++ (here ++ ts)) after ∙ ap (λ ts. old ++ ts) (sym step.tokens)))
left-tokens (Err e) left p old new step s t kept = tt
