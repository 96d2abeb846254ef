-- The first piece of any text is the one of the definition, where it is that of a text that begins
-- with a number.
use Rattle.std.proofs.Common.{◌≡◌, ◌∙◌, sym, ap, refl, subst, ℕ, ◌≤◌, ◌==◌, List, [], ◌∷◌, length, drop, true, false, arith, inl, inr}
use Rattle.std.proofs.lemmas.Bool.{cond_both}
use Rattle.std.specs.Prelude.{codes, if◌then◌else◌}
use Rattle.css_model.specs.Classes.{Text, open_round, is_whitespace, is_quote, begins, has_front}
use Rattle.css_model.specs.declared.token.TokenType.TheVariants.{Whitespace, Cdo, Cdc}
use Rattle.css_model.specs.declared.place.Place.TheVariants.{InName}
use Rattle.css_model.specs.Parts.{Part, itself, parts_text, would_start_ident}
use Rattle.css_model.specs.Numerals.{numeral_text}
use Rattle.css_model.specs.TokenList.{Piece, token}
use Rattle.css_model.specs.inner.Fronts.{run_in, parts_in, after_parts, would_start_number, numeral_in}
use Rattle.css_model.specs.inner.Pieces.{consume_comment, consume_string, consume_ident_like, marked_piece, consume_numeric, other_piece, first_piece}
use Rattle.css_model.proofs.PartLemmas.{parts_in-cons, parts_in-stop}
use Rattle.css_model.proofs.Laws.{IsFirst}
use Rattle.css_model.proofs.Longest.{comments, whites, quotes, numbers, names, cdcs, cdos, hashes, ats, Bounds, longest}
use Rattle.css_model.proofs.FirstStrings.{white-first, string-first}
use Rattle.css_model.proofs.FirstComments.{front-is, comment-first}
use Rattle.css_model.proofs.FirstMarks.{cdo-first, marked-first}
use Rattle.css_model.proofs.FirstNames.{names-plain, name-first}

-- ---- `-->`

pub cdc-parts : (cs : Text) → parts_in InName (45 ∷ 45 ∷ 62 ∷ cs) ≡ itself 45 ∷ itself 45 ∷ []
cdc-parts cs = parts_in-cons InName 45 (45 ∷ 62 ∷ cs) refl
    ∙ ap (λ ps. itself 45 ∷ ps)
    (parts_in-cons InName 45 (62 ∷ cs) refl ∙ ap (λ ps. itself 45 ∷ ps) (parts_in-stop InName 62 cs refl))

bounds-cdc : (cs : Text) → Bounds (45 ∷ 45 ∷ 62 ∷ cs) 3
bounds-cdc cs comments = inl refl
bounds-cdc cs whites = inl refl
bounds-cdc cs quotes = inl refl
bounds-cdc cs numbers = inl refl
bounds-cdc cs names =
    inr (names-plain (45 ∷ 45 ∷ 62 ∷ cs) 3
    (ap (λ ps. begins (λ c. c == open_round) (after_parts ps (45 ∷ 45 ∷ 62 ∷ cs))) (cdc-parts cs))
    (subst (λ ps. length (parts_text ps) ≤ 3) (sym (cdc-parts cs)) (omega arith)))
bounds-cdc cs cdcs = inr (λ s behind e i. subst (λ xs. length xs ≤ 3) (sym i) (omega arith))
bounds-cdc cs cdos = inl refl
bounds-cdc cs hashes = inl refl
bounds-cdc cs ats = inl refl

cdc-first : (cs : Text) → has_front (codes "-->") cs ≡ true → IsFirst (token Cdc (codes "-->")) cs
cdc-first cs t = subst (IsFirst (token Cdc (codes "-->"))) (front-is (codes "-->") cs t) (record {
  rest = drop 3 cs;
  joins = refl;
  some = omega arith;
  is = refl;
  longest = longest (45 ∷ 45 ∷ 62 ∷ drop 3 cs) 3 (omega arith) (bounds-cdc (drop 3 cs));
})

-- ---- comments

comment-there : (c : ℕ) (cs : Text) → has_front (codes "/*") (c ∷ cs) ≡ true
    → IsFirst (consume_comment (drop 1 cs)) (c ∷ cs)
comment-there c cs t =
    subst (IsFirst (consume_comment (drop 1 cs))) (front-is (codes "/*") (c ∷ cs) t)
    (comment-first (drop 1 cs))

-- ---- any text

-- no whitespace, quote or comment is in front, and a number is
pub record Numbered (cs : Text) : Type 0 where
  pub white : begins is_whitespace cs ≡ false
  pub quote : begins is_quote cs ≡ false
  pub comment : has_front (codes "/*") cs ≡ false
  pub number : would_start_number cs ≡ true

-- the first piece of a text that begins with a number is the one of the definition
abbrev pub NumbersAreFirst : Type 0
NumbersAreFirst = (c : ℕ) (cs : Text) → Numbered (c ∷ cs)
    → IsFirst (consume_numeric (numeral_in (c ∷ cs))
    (drop (length (numeral_text (numeral_in (c ∷ cs)))) (c ∷ cs))) (c ∷ cs)

other-first : (c : ℕ) (cs : Text) → begins is_whitespace (c ∷ cs) ≡ false → begins is_quote (c ∷ cs) ≡ false
    → has_front (codes "/*") (c ∷ cs) ≡ false → would_start_number (c ∷ cs) ≡ false
    → IsFirst (other_piece (parts_in InName (c ∷ cs)) c cs) (c ∷ cs)
other-first c cs w q k n =
    let parts : List Part = parts_in InName (c ∷ cs) in
    let as_name : Piece = consume_ident_like parts (after_parts parts (c ∷ cs)) in
    let as_cdo : Piece = token Cdo (codes "<!--") in
    let as_mark : Piece = marked_piece c (parts_in InName cs) in
    let there : Piece → Type 0 = λ p. IsFirst p (c ∷ cs) in
    cond_both (has_front (codes "-->") (c ∷ cs)) (token Cdc (codes "-->"))
    (if would_start_ident parts then as_name else
    (if has_front (codes "<!--") (c ∷ cs) then as_cdo else as_mark)) there
    (λ t. cdc-first (c ∷ cs) t)
    (λ d. cond_both (would_start_ident parts) as_name
    (if has_front (codes "<!--") (c ∷ cs) then as_cdo else as_mark) there
    (λ t. name-first c cs (after_parts parts (c ∷ cs))
    (record { comment = k; white = w; quote = q; number = n; cdc = d; name = t }) refl)
    (λ m. cond_both (has_front (codes "<!--") (c ∷ cs)) as_cdo as_mark there
    (λ t. cdo-first c cs (record { comment = k; white = w; quote = q; number = n; name = m; cdc = d }) t)
    (λ f. marked-first c cs
    (record { comment = k; white = w; quote = q; number = n; name = m; cdc = d }) f)))

pub pieces-first : NumbersAreFirst → (c : ℕ) (cs : Text) → IsFirst (first_piece c cs) (c ∷ cs)
pieces-first law c cs =
    let as_number : Piece =
    consume_numeric (numeral_in (c ∷ cs))
    (drop (length (numeral_text (numeral_in (c ∷ cs)))) (c ∷ cs)) in
    let as_other : Piece = other_piece (parts_in InName (c ∷ cs)) c cs in
    let as_comment : Piece = consume_comment (drop 1 cs) in
    let there : Piece → Type 0 = λ p. IsFirst p (c ∷ cs) in
    cond_both (is_whitespace c) (token Whitespace (run_in is_whitespace (c ∷ cs)))
    (if is_quote c then consume_string c cs else
    (if has_front (codes "/*") (c ∷ cs) then as_comment else
    (if would_start_number (c ∷ cs) then as_number else as_other))) there
    (λ t. white-first c cs t)
    (λ w. cond_both (is_quote c) (consume_string c cs)
    (if has_front (codes "/*") (c ∷ cs) then as_comment else
    (if would_start_number (c ∷ cs) then as_number else as_other)) there
    (λ t. string-first c cs t)
    (λ q. cond_both (has_front (codes "/*") (c ∷ cs)) as_comment
    (if would_start_number (c ∷ cs) then as_number else as_other) there
    (λ t. comment-there c cs t)
    (λ k. cond_both (would_start_number (c ∷ cs)) as_number as_other there
    (λ t. law c cs (record { white = w; quote = q; comment = k; number = t }))
    (λ n. other-first c cs w q k n))))
