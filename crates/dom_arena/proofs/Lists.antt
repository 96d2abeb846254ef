-- Lists that are read by index after a write.
use Rattle.std.proofs.Common.{List, None, Some, [], ap, arith, drop, inl, inr, length, refl, slice_get, slice_index_or, slice_set, suc, sym, take, zero, ℕ, ◌++◌, ◌<◌, ◌∷◌, ◌≡◌, ◌≤◌, ◌⊎◌}
use Rattle.std.proofs.lemmas.Option.{none-some, same_Some}

pub get-set-same : {X : Type 0} (xs : List X) (i : ℕ) (a : X) → i < length xs → slice_get (slice_set xs i a) i ≡ Some a
get-set-same [] i a h = absurd (omega (arith, h))
get-set-same (x ∷ xs) zero a h = refl
get-set-same (x ∷ xs) (suc i) a h = get-set-same xs i a (omega (arith, h))

pub get-set-other : {X : Type 0} (xs : List X) (i j : ℕ) (a : X) → (j ≡ i → ⊥) → slice_get (slice_set xs i a) j ≡ slice_get xs j
get-set-other [] i j a h = refl
get-set-other (x ∷ xs) zero zero a h = absurd (h refl)
get-set-other (x ∷ xs) zero (suc j) a h = refl
get-set-other (x ∷ xs) (suc i) zero a h = refl
get-set-other (x ∷ xs) (suc i) (suc j) a h = get-set-other xs i j a (λ e. h (ap suc e))

pub length-slice_set : {X : Type 0} (xs : List X) (i : ℕ) (a : X) → length (slice_set xs i a) ≡ length xs
length-slice_set [] i a = refl
length-slice_set (x ∷ xs) zero a = refl
length-slice_set (x ∷ xs) (suc i) a = ap suc (length-slice_set xs i a)

pub get-past : {X : Type 0} (xs : List X) (i : ℕ) → length xs ≤ i → slice_get xs i ≡ None
get-past [] i h = refl
get-past (x ∷ xs) zero h = absurd (omega (arith, h))
get-past (x ∷ xs) (suc i) h = get-past xs i (omega (arith, h))

pub get-within : {X : Type 0} (xs : List X) (i : ℕ) (x : X) → slice_get xs i ≡ Some x → i < length xs
get-within [] i x h = absurd (none-some x h)
get-within (y ∷ ys) zero x h = omega arith
get-within (y ∷ ys) (suc i) x h = let rest : i < length ys = get-within ys i x h in omega (arith, rest)

pub get-some : {X : Type 0} (xs : List X) (i : ℕ) → i < length xs → (x : X) × (slice_get xs i ≡ Some x)
get-some [] i h = absurd (omega (arith, h))
get-some (x ∷ xs) zero h = (x, refl)
get-some (x ∷ xs) (suc i) h = get-some xs i (omega (arith, h))

pub get-append : {X : Type 0} (xs ys : List X) (i : ℕ) → i < length xs → slice_get (xs ++ ys) i ≡ slice_get xs i
get-append [] ys i h = absurd (omega (arith, h))
get-append (x ∷ xs) ys zero h = refl
get-append (x ∷ xs) ys (suc i) h = get-append xs ys i (omega (arith, h))

pub get-end : {X : Type 0} (xs : List X) (y : X) → slice_get (xs ++ y ∷ []) (length xs) ≡ Some y
get-end [] y = refl
get-end (x ∷ xs) y = get-end xs y

pub length-push : {X : Type 0} (xs : List X) (y : X) → length (xs ++ y ∷ []) ≡ suc (length xs)
length-push [] y = refl
length-push (x ∷ xs) y = ap suc (length-push xs y)

-- where an index of a list with one more item is
pub push-cases : {X : Type 0} (xs : List X) (y : X) (i : ℕ) (x : X) → slice_get (xs ++ y ∷ []) i ≡ Some x → (slice_get xs i ≡ Some x) ⊎ ((i ≡ length xs) × (x ≡ y))
push-cases [] y zero x h = inr (refl, sym (same_Some y x h))
push-cases [] y (suc i) x h = absurd (none-some x h)
push-cases (z ∷ xs) y zero x h = inl h
push-cases (z ∷ xs) y (suc i) x h = elim (push-cases xs y i x h) [
  | inl k ↦ inl k
  | inr k ↦ inr (ap suc k.0, k.1)
]

-- ---- the items before an index, the one there, and those behind

pub take-next : {X : Type 0} (xs : List X) (i : ℕ) (x : X) → i < length xs → x ≡ slice_index_or xs i x → take (suc i) xs ≡ take i xs ++ x ∷ []
take-next [] i x h e = absurd (omega (arith, h))
take-next (y ∷ ys) zero x h e = ap (λ z. z ∷ []) (sym e)
take-next (y ∷ ys) (suc i) x h e = ap (λ zs. y ∷ zs) (take-next ys i x (omega (arith, h)) e)

pub cut-at : {X : Type 0} (xs : List X) (i : ℕ) (x : X) → i < length xs → x ≡ slice_index_or xs i x → xs ≡ take i xs ++ x ∷ drop (suc i) xs
cut-at [] i x h e = absurd (omega (arith, h))
cut-at (y ∷ ys) zero x h e = ap (λ z. z ∷ ys) (sym e)
cut-at (y ∷ ys) (suc i) x h e = ap (λ zs. y ∷ zs) (cut-at ys i x (omega (arith, h)) e)

pub drop-next : {X : Type 0} (xs : List X) (i : ℕ) (x : X) → i < length xs → x ≡ slice_index_or xs i x → drop i xs ≡ x ∷ drop (suc i) xs
drop-next [] i x h e = absurd (omega (arith, h))
drop-next (y ∷ ys) zero x h e = ap (λ z. z ∷ ys) (sym e)
drop-next (y ∷ ys) (suc i) x h e = drop-next ys i x (omega (arith, h)) e
