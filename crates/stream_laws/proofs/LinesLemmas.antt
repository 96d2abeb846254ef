-- The lines of a stream are the one way to cut it, and the whole lines are those up to its last newline.
use Rattle.std.proofs.Common.{◌≡◌, sym, ap, refl, inl, inr, ℕ, ◌<◌, ◌==◌, List, [], ◌∷◌, ◌++◌, length, false, eqb-true, arith, append_assoc}
use Rattle.std.proofs.lemmas.Bool.{cases_Bool}
use Rattle.stream_model.specs.Lines.{newline, onto, onto_first, lines, whole_lines, IsUnbroken}
use Rattle.stream_laws.specs.Cuts.{AreLines, EndsLines}

-- one more byte in front of lines
AreLines-onto : (b : ℕ) (bytes : List ℕ) (ls : List (List ℕ)) → (b == newline) ≡ false → AreLines bytes ls → AreLines (b ∷ bytes) (onto b ls)
AreLines-onto b bytes [] f a = ((f, tt), inr (omega arith, ap (λ (bs : List ℕ). b ∷ bs) a, refl))
AreLines-onto b bytes (line ∷ others) f (unbroken, inl more) = ((f, unbroken), inl (more.0, ap (λ (bs : List ℕ). b ∷ bs) more.1, more.2))
AreLines-onto b bytes (line ∷ others) f (unbroken, inr last) = ((f, unbroken), inr (omega arith, ap (λ (bs : List ℕ). b ∷ bs) last.1, last.2))

pub AreLines-lines : (bytes : List ℕ) → AreLines bytes (lines bytes)
AreLines-lines [] = refl
AreLines-lines (b ∷ bytes) = elim (cases_Bool (b == newline)) [
  | inl t ↦ rw t (tt, inl (bytes, ap (λ (n : ℕ). n ∷ bytes) (eqb-true b newline t), AreLines-lines bytes))
  | inr f ↦ rw f (AreLines-onto b bytes (lines bytes) f (AreLines-lines bytes))
]

lines-part : (line rest : List ℕ) → IsUnbroken line → lines (line ++ newline ∷ rest) ≡ line ∷ lines rest
lines-part [] rest u = refl
lines-part (b ∷ line) rest u = rw (u.0, lines-part line rest u.1) refl

lines-last : (b : ℕ) (line : List ℕ) → IsUnbroken (b ∷ line) → lines (b ∷ line) ≡ (b ∷ line) ∷ []
lines-last b [] u = rw u.0 refl
lines-last b (c ∷ line) u = rw (u.0, lines-last c line u.1) refl

lines-rest : (line : List ℕ) → IsUnbroken line → 0 < length line → lines line ≡ line ∷ []
lines-rest [] u h = absurd (omega arith)
lines-rest (b ∷ line) u h = lines-last b line u

pub lines-one : (ls : List (List ℕ)) (bytes : List ℕ) → AreLines bytes ls → ls ≡ lines bytes
lines-one [] bytes a = rw a refl
lines-one (line ∷ others) bytes (unbroken, inl more) =
    rw (more.1, lines-part line more.0 unbroken) (ap (λ (ls : List (List ℕ)). line ∷ ls) (lines-one others more.0 more.2))
lines-one (line ∷ others) bytes (unbroken, inr last) = rw (last.1, last.2) (sym (lines-rest line unbroken last.0))

-- bytes without a newline have no whole line
whole_lines-unbroken : (rest : List ℕ) → IsUnbroken rest → whole_lines rest ≡ []
whole_lines-unbroken [] u = refl
whole_lines-unbroken (b ∷ rest) u = rw (u.0, whole_lines-unbroken rest u.1) refl

onto-some : (b : ℕ) (ls : List (List ℕ)) → 0 < length (onto b ls)
onto-some b [] = omega arith
onto-some b (line ∷ ls) = omega arith

-- bytes that end with a newline have a line
lines-some : (front : List ℕ) → 0 < length (lines (front ++ newline ∷ []))
lines-some [] = omega arith
lines-some (b ∷ front) = elim (cases_Bool (b == newline)) [
  | inl t ↦ rw t (omega arith)
  | inr f ↦ rw f (onto-some b (lines (front ++ newline ∷ [])))
]

onto_first-onto : (b : ℕ) (ls : List (List ℕ)) → 0 < length ls → onto_first b ls ≡ onto b ls
onto_first-onto b [] some = absurd (omega arith)
onto_first-onto b (line ∷ ls) some = refl

whole_lines-front : (front rest : List ℕ) → IsUnbroken rest → whole_lines (front ++ newline ∷ rest) ≡ lines (front ++ newline ∷ [])
whole_lines-front [] rest u = rw (whole_lines-unbroken rest u) refl
whole_lines-front (b ∷ front) rest u = elim (cases_Bool (b == newline)) [
  | inl t ↦ rw (t, whole_lines-front front rest u) refl
  | inr f ↦ rw (f, whole_lines-front front rest u) (onto_first-onto b (lines (front ++ newline ∷ [])) (lines-some front))
]

-- the whole lines are those up to the last newline
pub whole_lines-ended : (ended rest : List ℕ) → EndsLines ended → IsUnbroken rest → whole_lines (ended ++ rest) ≡ lines ended
whole_lines-ended ended rest (inl e) u = rw e (whole_lines-unbroken rest u)
whole_lines-ended ended rest (inr e) u =
    rw (e.1, append_assoc e.0 (newline ∷ []) rest) (whole_lines-front e.0 rest u)
