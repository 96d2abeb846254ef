-- Lines that are cut off a stream.
use Rattle.std.proofs.Common.{◌≡◌, ℕ, zero, suc, ◌+◌, ◌<◌, List, [], ◌∷◌, ◌++◌, length, take, drop, get_or, true, eqb, refl, ap, sym, ◌∙◌, subst, arith}
use Rattle.std.proofs.lemmas.Bool.{false_from_ne_true, eqb-true}
use Rattle.std.proofs.lemmas.List.{drop_more, take-append-drop, take_all}
use Rattle.memchr.specs.Find.{NoneBefore, Nowhere, Passes, is_byte}
use Rattle.stream_model.specs.Lines.{newline, lines, onto, IsUnbroken}

-- a front in which no place has a newline is unbroken
pub IsUnbroken-take : (xs : List ℕ) (k : ℕ)
    → ((j : ℕ) → j < k → eqb (get_or xs j 0) newline ≡ true → ⊥) → IsUnbroken (take k xs)
IsUnbroken-take xs zero none = tt
IsUnbroken-take [] (suc k) none = tt
IsUnbroken-take (x ∷ xs) (suc k) none =
    (false_from_ne_true (eqb x newline) (none 0 (omega arith)), IsUnbroken-take xs k (λ j h. none (suc j) (omega arith)))

pub IsUnbroken-append : (xs ys : List ℕ) → IsUnbroken xs → IsUnbroken ys → IsUnbroken (xs ++ ys)
IsUnbroken-append [] ys u v = v
IsUnbroken-append (x ∷ xs) ys u v = (u.0, IsUnbroken-append xs ys u.1 v)

-- an unbroken line before a newline is the first line
pub lines-newline : (line rest : List ℕ) → IsUnbroken line
    → lines (line ++ newline ∷ rest) ≡ line ∷ lines rest
lines-newline [] rest u = refl
lines-newline (b ∷ bytes) rest u = rw u.0 (ap (onto b) (lines-newline bytes rest u.1))

-- an unbroken line of at least one byte, with nothing after it, is the only line
pub lines-last : (line : List ℕ) → IsUnbroken line → 0 < length line → lines line ≡ line ∷ []
lines-last [] u some = absurd (omega arith)
lines-last (b ∷ []) u some = rw u.0 refl
lines-last (b ∷ c ∷ bytes) u some = rw u.0 (ap (onto b) (lines-last (c ∷ bytes) u.1 (omega arith)))

-- the first newline parts an unbroken piece from the rest
pub newline_parts : (bytes : List ℕ) (at : ℕ)
    → NoneBefore (Passes (is_byte newline) bytes) 0 (length bytes) at
    × Passes (is_byte newline) bytes at
    → IsUnbroken (take at bytes) × (bytes ≡ take at bytes ++ newline ∷ drop (at + 1) bytes)
newline_parts bytes at found =
    let within : at < length bytes = found.0.high in
    let here : get_or bytes at 0 ≡ newline = eqb-true (get_or bytes at 0) newline found.1 in
    let rest : drop at bytes ≡ newline ∷ drop (at + 1) bytes = drop_more bytes at 0 within ∙ ap (λ b. b ∷ drop (at + 1) bytes) here in
    (IsUnbroken-take bytes at (λ j h. found.0.before j (omega arith) h), sym (take-append-drop at bytes) ∙ ap (λ r. take at bytes ++ r) rest)

-- bytes without a newline are unbroken
pub IsUnbroken-nowhere : (bytes : List ℕ) → Nowhere (Passes (is_byte newline) bytes) 0 (length bytes)
    → IsUnbroken bytes
IsUnbroken-nowhere bytes none =
    subst (λ (xs : List ℕ). IsUnbroken xs) (take_all (length bytes) bytes (omega arith)) (IsUnbroken-take bytes (length bytes) (λ j h. none j (omega arith) h))
