-- The inside of a comment, character by character.
use Rattle.std.proofs.Common.{◌≡◌, ◌∙◌, ap, refl, sym, subst, ℕ, suc, ◌+◌, ◌<◌, ◌≤◌, ◌==◌, ◌&&◌, length, get_or, drop, drop-cons, add-one, List, [], ◌∷◌, ◌++◌, true, false, arith, inl, inr}
use Rattle.std.proofs.Math.Utf8.{encodes, encode}
use Rattle.std.proofs.lemmas.Bool.{cases_Bool, cases_lt}
use Rattle.std.proofs.lemmas.Bool.Decides.{nat_tests}
use Rattle.std.proofs.lemmas.Str.{encodes-chars}
use Rattle.std.specs.Str.{chars, IsUtf8}
use Rattle.std.specs.Prelude.{codes}
use Rattle.css_model.specs.Classes.{Text, has_front}
use Rattle.css_model.specs.inner.Pieces.{comment_inside, comment_end}
use Rattle.css_tokens.proofs.Utf8Fronts.{Cut, cut, front-bytes, high-byte, low-bytes}

inside-end : (cs : Text) → has_front (codes "*/") cs ≡ true → length (comment_inside cs) ≡ 0
inside-end [] t = refl
inside-end (c ∷ cs) t = rw t refl

-- the comment ends here
pub inside-over : (cs : Text) (i : ℕ) → has_front (codes "*/") (drop i cs) ≡ true → length (comment_inside (drop i cs)) ≡ 0
inside-over cs i t = inside-end (drop i cs) t

inside-cons : (c : ℕ) (cs : Text) → has_front (codes "*/") (c ∷ cs) ≡ false → length (comment_inside (c ∷ cs)) ≡ suc (length (comment_inside cs))
inside-cons c cs f = rw f refl

-- the comment goes on by a character
pub inside-more : (cs : Text) (i : ℕ) → i < length cs → has_front (codes "*/") (drop i cs) ≡ false → length (comment_inside (drop i cs)) ≡ suc (length (comment_inside (drop (i + 1) cs)))
inside-more cs i h f =
    let front : drop i cs ≡ get_or cs i 0 ∷ drop (suc i) cs = drop-cons cs i 0 h in
    let none : has_front (codes "*/") (get_or cs i 0 ∷ drop (suc i) cs) ≡ false = sym (ap (has_front (codes "*/")) front) ∙ f in
    ap (λ xs. length (comment_inside xs)) front ∙ (inside-cons (get_or cs i 0) (drop (suc i) cs) none ∙ ap (λ n. suc (length (comment_inside (drop n cs)))) (sym (add-one i)))

-- ---- the inside by bytes

inside-all : (xs ys : Text) → ((k : ℕ) → k < length xs → (get_or xs k 0 == 42) ≡ false) → comment_inside (xs ++ ys) ≡ xs ++ comment_inside ys
inside-all [] ys h = refl
inside-all (x ∷ xs) ys h =
    let here : (x == 42) ≡ false = h 0 (omega arith) in
    let none : has_front (codes "*/") (x ∷ (xs ++ ys)) ≡ false = rw here refl in
    rw none (ap (λ l. x ∷ l) (inside-all xs ys (λ k l. h (suc k) (omega (arith, l)))))

high-star : (c : ℕ) → 128 ≤ c → (c == 42) ≡ false
high-star c h = grind (arith, nat_tests)

inside-bytes : (cs : Text) → comment_inside (encodes cs) ≡ encodes (comment_inside cs)
inside-bytes [] = refl
inside-bytes (c ∷ cs) = elim (cases_lt c 128) [
  | inl h ↦ elim (cases_Bool (has_front (codes "*/") (c ∷ cs))) [
    | inl t ↦
        let bytes : has_front (codes "*/") (c ∷ encodes cs) ≡ true = ap (has_front (codes "*/")) (sym (low-bytes c cs h)) ∙ (front-bytes (codes "*/") (c ∷ cs) (omega arith, (omega arith, tt)) ∙ t) in
        let empty : comment_inside (c ∷ cs) ≡ [] = rw t refl in
        let empty' : comment_inside (c ∷ encodes cs) ≡ [] = rw bytes refl in
        ap comment_inside (low-bytes c cs h) ∙ (empty' ∙ sym (ap encodes empty))
    | inr f ↦
        let bytes : has_front (codes "*/") (c ∷ encodes cs) ≡ false = ap (has_front (codes "*/")) (sym (low-bytes c cs h)) ∙ (front-bytes (codes "*/") (c ∷ cs) (omega arith, (omega arith, tt)) ∙ f) in
        let here : comment_inside (c ∷ cs) ≡ c ∷ comment_inside cs = rw f refl in
        let here' : comment_inside (c ∷ encodes cs) ≡ c ∷ comment_inside (encodes cs) = rw bytes refl in
        ap comment_inside (low-bytes c cs h) ∙ (here' ∙ (ap (λ l. c ∷ l) (inside-bytes cs) ∙ (sym (low-bytes c (comment_inside cs) h) ∙ sym (ap encodes here))))
  ]
  | inr h ↦
      let none : has_front (codes "*/") (c ∷ cs) ≡ false = ap (λ b. b && has_front (codes "/") cs) (high-star c h) in
      let here : comment_inside (c ∷ cs) ≡ c ∷ comment_inside cs = rw none refl in
      inside-all (encode c) (encodes cs) (λ k l. high-star (get_or (encode c) k 0) (high-byte c k h l))
      ∙ (ap (λ l. encode c ++ l) (inside-bytes cs) ∙ sym (ap encodes here))
]

inside-joins : (cs : Text) → comment_inside cs ++ drop (length (comment_inside cs)) cs ≡ cs
inside-joins [] = refl
inside-joins (c ∷ cs) = elim (cases_Bool (has_front (codes "*/") (c ∷ cs))) [
  | inl t ↦ rw t refl
  | inr f ↦ rw f (ap (λ l. c ∷ l) (inside-joins cs))
]

-- the first n bytes are the inside of the comment
pub inside-cut : (bs : List ℕ) (n : ℕ) → IsUtf8 bs → n ≡ length (comment_inside bs)
    → Cut bs n (comment_inside (chars bs)) (drop (length (comment_inside (chars bs))) (chars bs))
inside-cut bs n u e =
    let inside : Text = comment_inside (chars bs) in
    let bytes : comment_inside bs ≡ encodes inside = ap comment_inside (sym (encodes-chars bs u)) ∙ inside-bytes (chars bs) in
    subst (λ k. Cut bs k inside (drop (length inside) (chars bs))) (sym (e ∙ ap length bytes))
    (cut bs inside (drop (length inside) (chars bs)) u (inside-joins (chars bs)))

-- after the inside comes no more of it
pub inside-ends : (cs : Text) → comment_inside (drop (length (comment_inside cs)) cs) ≡ []
inside-ends [] = refl
inside-ends (c ∷ cs) = elim (cases_Bool (has_front (codes "*/") (c ∷ cs))) [
  | inl t ↦ rw t (rw t refl)
  | inr f ↦ rw f (inside-ends cs)
]

-- ---- the end of a comment

pub end-some : (cs rest : Text) → cs ≡ codes "*/" ++ rest → rest ≡ drop (length (comment_end cs)) cs
end-some cs rest e = subst (λ l. rest ≡ drop (length (comment_end l)) l) (sym e) refl

pub end-none : (cs : Text) → comment_inside cs ≡ [] → has_front (codes "*/") cs ≡ false → cs ≡ drop (length (comment_end cs)) cs
end-none [] e f = refl
end-none (c ∷ cs) e f =
    let here : comment_inside (c ∷ cs) ≡ c ∷ comment_inside cs = rw f refl in
    let none : c ∷ comment_inside cs ≡ [] = sym here ∙ e in
    cc
