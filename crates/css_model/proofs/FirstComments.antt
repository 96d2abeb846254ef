-- The first piece of a text that begins with a comment.
use Rattle.std.proofs.Common.{◌≡◌, ◌∙◌, sym, ap, refl, subst, ℕ, suc, ◌+◌, ◌≤◌, ◌==◌, [], ◌∷◌, ◌++◌, length, drop, Bool, true, false, ◌&&◌, arith, append_assoc, length-append, eqb-true, inl, inr}
use Rattle.std.proofs.lemmas.Bool.{cases_Bool, false≢true}
use Rattle.std.proofs.Math.Seq.{drop-append_seam}
use Rattle.std.specs.Prelude.{codes}
use Rattle.css_model.specs.Classes.{Text, solidus, has_front}
use Rattle.css_model.specs.Spellings.{IsEnd}
use Rattle.css_model.specs.TokenList.{piece_text, has_comment_end}
use Rattle.css_model.specs.inner.Pieces.{comment_inside, comment_end, consume_comment}
use Rattle.css_model.proofs.Tests.{or-none, and-left, and-right, or-false-left, or-false-right, pick-true, pick-false}
use Rattle.css_model.proofs.Laws.{IsFirst}
use Rattle.css_model.proofs.Longest.{comments, Bound, bounds-only, longest}

-- what a text has in front
pub front-is : (ds cs : Text) → has_front ds cs ≡ true → ds ++ drop (length ds) cs ≡ cs
front-is [] cs h = refl
front-is (d ∷ ds) [] h = absurd (false≢true h)
front-is (d ∷ ds) (c ∷ cs) h =
    rw (eqb-true c d (and-left (c == d) (has_front ds cs) h))
    (ap (λ xs. d ∷ xs) (front-is ds cs (and-right (c == d) (has_front ds cs) h)))

pub and-zero : (b : Bool) → (b && false) ≡ false
and-zero true = refl
and-zero false = refl

-- ---- comments

-- the inside of a comment, and what is after it
record Inside (cs : Text) : Type 0 where
  rest : Text
  joins : comment_inside cs ++ (comment_end (drop (length (comment_inside cs)) cs) ++ rest) ≡ cs
  no_end : has_comment_end (comment_inside cs) ≡ false
  ends : IsEnd (codes "*/") (comment_end (drop (length (comment_inside cs)) cs)) rest

end-front : (c : ℕ) (xs : Text) → has_front (codes "*/") (c ∷ xs) ≡ false → has_comment_end xs ≡ false
    → has_comment_end (c ∷ xs) ≡ false
end-front c xs f h = or-none (has_front (codes "*/") (c ∷ xs)) (has_comment_end xs) f h

-- a code point that begins no end, before an inside
inside-cons : (c : ℕ) (cs : Text) → has_front (codes "*/") (c ∷ cs) ≡ false
    → has_comment_end (comment_inside cs) ≡ false → has_comment_end (c ∷ comment_inside cs) ≡ false
inside-cons c [] f h = end-front c [] (and-zero (c == 42)) refl
inside-cons c (d ∷ cs) f h = elim (cases_Bool (has_front (codes "*/") (d ∷ cs))) [
  | inl t ↦ ap (λ xs. has_comment_end (c ∷ xs))
      (pick-true (has_front (codes "*/") (d ∷ cs)) [] (d ∷ comment_inside cs) t)
      ∙ end-front c [] (and-zero (c == 42)) refl
  | inr n ↦
      let is : comment_inside (d ∷ cs) ≡ d ∷ comment_inside cs =
      pick-false (has_front (codes "*/") (d ∷ cs)) [] (d ∷ comment_inside cs) n in
      ap (λ xs. has_comment_end (c ∷ xs)) is
      ∙ end-front c (d ∷ comment_inside cs) f (sym (ap has_comment_end is) ∙ h)
]

-- no end begins at a code point of an inside
no-front : (c : ℕ) (inside end rest : Text) → has_front (codes "*/") (c ∷ inside) ≡ false
    → IsEnd (codes "*/") end rest → has_front (codes "*/") (c ∷ (inside ++ (end ++ rest))) ≡ false
no-front c (d ∷ inside) end rest f e = f
no-front c [] end rest f (inl e) = ap (λ xs. has_front (codes "*/") (c ∷ (xs ++ rest))) e
    ∙ and-zero (c == 42)
no-front c [] end rest f (inr e) = ap (λ xs. has_front (codes "*/") (c ∷ (xs ++ rest))) e.0
    ∙ (ap (λ xs. has_front (codes "*/") (c ∷ xs)) e.1 ∙ and-zero (c == 42))

-- an inside of the definition is the one that is computed
inside-is : (inside end rest : Text) → has_comment_end inside ≡ false → IsEnd (codes "*/") end rest
    → comment_inside (inside ++ (end ++ rest)) ≡ inside
inside-is [] end rest h (inl e) = ap (λ xs. comment_inside (xs ++ rest)) e
inside-is [] end rest h (inr e) = ap (λ xs. comment_inside (xs ++ rest)) e.0 ∙ ap comment_inside e.1
inside-is (c ∷ inside) end rest h e =
    let here : has_front (codes "*/") (c ∷ inside) ≡ false =
    or-false-left (has_front (codes "*/") (c ∷ inside)) (has_comment_end inside) h in
    let more : comment_inside (inside ++ (end ++ rest)) ≡ inside =
    inside-is inside end rest
    (or-false-right (has_front (codes "*/") (c ∷ inside)) (has_comment_end inside) h) e in
    pick-false (has_front (codes "*/") (c ∷ (inside ++ (end ++ rest)))) []
    (c ∷ comment_inside (inside ++ (end ++ rest))) (no-front c inside end rest here e)
    ∙ ap (λ xs. c ∷ xs) more

insides : (cs : Text) → Inside cs
insides [] = record { rest = []; joins = refl; no_end = refl; ends = inr (refl, refl) }
insides (c ∷ cs) = elim (cases_Bool (has_front (codes "*/") (c ∷ cs))) [
  | inl t ↦
      let is : comment_inside (c ∷ cs) ≡ [] =
      pick-true (has_front (codes "*/") (c ∷ cs)) [] (c ∷ comment_inside cs) t in
      let end : comment_end (drop (length (comment_inside (c ∷ cs))) (c ∷ cs)) ≡ codes "*/" =
      ap (λ xs. comment_end (drop (length xs) (c ∷ cs))) is in
      record {
        rest = drop 2 (c ∷ cs);
        joins = ap (λ xs.
            xs ++ (comment_end (drop (length (comment_inside (c ∷ cs))) (c ∷ cs)) ++ drop 2 (c ∷ cs))) is
            ∙ (ap (λ xs. xs ++ drop 2 (c ∷ cs)) end ∙ front-is (codes "*/") (c ∷ cs) t);
        no_end = ap has_comment_end is;
        ends = inl end;
      }
  | inr n ↦
      let more : Inside cs = insides cs in
      let is : comment_inside (c ∷ cs) ≡ c ∷ comment_inside cs =
      pick-false (has_front (codes "*/") (c ∷ cs)) [] (c ∷ comment_inside cs) n in
      let end : comment_end (drop (length (comment_inside (c ∷ cs))) (c ∷ cs))
      ≡ comment_end (drop (length (comment_inside cs)) cs) =
      ap (λ xs. comment_end (drop (length xs) (c ∷ cs))) is in
      record {
        rest = more.rest;
        joins = ap (λ xs.
            xs ++ (comment_end (drop (length (comment_inside (c ∷ cs))) (c ∷ cs)) ++ more.rest)) is
            ∙ (ap (λ xs. c ∷ (comment_inside cs ++ (xs ++ more.rest))) end ∙ ap (λ xs. c ∷ xs) more.joins);
        no_end = ap has_comment_end is ∙ inside-cons c cs n more.no_end;
        ends = subst (λ xs. IsEnd (codes "*/") xs more.rest) (sym end) more.ends;
      }
]

-- what ends a comment is after its inside
end-within : (end rest : Text) → IsEnd (codes "*/") end rest
    → length end ≤ length (comment_end (end ++ rest))
end-within end rest (inl e) =
    subst (λ xs. length xs ≤ length (comment_end (xs ++ rest))) (sym e) (omega arith)
end-within end rest (inr e) =
    subst (λ xs. length xs ≤ length (comment_end (xs ++ rest))) (sym e.0) (omega arith)

comment-bound : (cs : Text) → Bound comments (47 ∷ 42 ∷ cs) (length (piece_text (consume_comment cs)))
comment-bound cs s behind e i =
    let all : 47 ∷ 42 ∷ ((i.inside ++ i.end) ++ behind) ≡ 47 ∷ 42 ∷ cs =
    ap (λ xs. xs ++ behind) (sym i.spelling) ∙ e in
    let tail : i.inside ++ (i.end ++ behind) ≡ cs = sym (append_assoc i.inside i.end behind)
    ∙ ap (drop 2) all in
    let is : comment_inside cs ≡ i.inside = ap comment_inside (sym tail)
    ∙ inside-is i.inside i.end behind i.no_end_inside i.ends in
    let left : drop (length (comment_inside cs)) cs ≡ i.end ++ behind = ap (λ xs. drop (length xs) cs) is
    ∙ (ap (drop (length i.inside)) (sym tail) ∙ drop-append_seam i.inside (i.end ++ behind)) in
    let end : length i.end ≤ length (comment_end (drop (length (comment_inside cs)) cs)) =
    subst (λ xs. length i.end ≤ length (comment_end xs)) (sym left) (end-within i.end behind i.ends) in
    let mine : length s ≡ suc (suc (length i.inside + length i.end)) = ap length i.spelling
    ∙ ap (λ k. suc (suc k)) (length-append i.inside i.end) in
    let same : length (comment_inside cs) ≡ length i.inside = ap length is in
    rw (length-append (comment_inside cs) (comment_end (drop (length (comment_inside cs)) cs)))
    (omega (arith, end, mine, same))

pub comment-first : (cs : Text) → IsFirst (consume_comment cs) (47 ∷ 42 ∷ cs)
comment-first cs =
    let inside : Inside cs = insides cs in
    record {
      rest = inside.rest;
      joins = ap (λ xs. 47 ∷ 42 ∷ xs)
          (append_assoc (comment_inside cs) (comment_end (drop (length (comment_inside cs)) cs)) inside.rest
          ∙ inside.joins);
      some = omega arith;
      is = record {
        inside = comment_inside cs;
        end = comment_end (drop (length (comment_inside cs)) cs);
        spelling = refl;
        no_end_inside = inside.no_end;
        ends = inside.ends;
      };
      longest = longest (47 ∷ 42 ∷ cs) (length (piece_text (consume_comment cs))) (omega arith)
          (bounds-only comments solidus (42 ∷ cs) (length (piece_text (consume_comment cs))) refl
          (comment-bound cs));
    }
