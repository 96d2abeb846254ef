-- What is among the elements of a list, by index.
use Rattle.std.proofs.Common.{◌≡◌, ℕ, zero, suc, List, [], ◌∷◌, Some, slice_get, inl, inr, refl, ap, sym, ◌∙◌, arith}
use Rattle.stream_model.specs.Lists.{IsAmong, AreDistinct}

pub IsAmong-get : {X : Type 0} (x : X) (xs : List X) → IsAmong x xs → (i : ℕ) × (slice_get xs i ≡ Some x)
IsAmong-get x [] a = absurd a
IsAmong-get x (y ∷ ys) (inl e) = (0, ap Some (sym e))
IsAmong-get x (y ∷ ys) (inr a) = (suc (IsAmong-get x ys a).0, (IsAmong-get x ys a).1)

pub IsAmong-from_get : {X : Type 0} (x : X) (xs : List X) (i : ℕ) → slice_get xs i ≡ Some x → IsAmong x xs
IsAmong-from_get x [] i e = cc
IsAmong-from_get x (y ∷ ys) zero e = inl cc
IsAmong-from_get x (y ∷ ys) (suc i) e = inr (IsAmong-from_get x ys i e)

-- where the first element is among the others, the list is not distinct
first_again : {X : Type 0} (x y : X) (ys : List X) (i : ℕ) → (IsAmong y ys → ⊥) → Some y ≡ Some x → slice_get ys i ≡ Some x → ⊥
first_again x y ys i apart e f = apart (IsAmong-from_get y ys i (f ∙ sym e))

pub AreDistinct-index : {X : Type 0} (xs : List X) → AreDistinct xs → (i j : ℕ) (x : X) → slice_get xs i ≡ Some x → slice_get xs j ≡ Some x → i ≡ j
AreDistinct-index [] d i j x e f = cc
AreDistinct-index (y ∷ ys) d zero zero x e f = refl
AreDistinct-index (y ∷ ys) d zero (suc j) x e f = absurd (first_again x y ys j d.0 e f)
AreDistinct-index (y ∷ ys) d (suc i) zero x e f = absurd (first_again x y ys i d.0 f e)
AreDistinct-index (y ∷ ys) d (suc i) (suc j) x e f = ap suc (AreDistinct-index ys d.1 i j x e f)

pub AreDistinct-from_index : {X : Type 0} (xs : List X) → ((i j : ℕ) (x : X) → slice_get xs i ≡ Some x → slice_get xs j ≡ Some x → i ≡ j) → AreDistinct xs
AreDistinct-from_index [] h = tt
AreDistinct-from_index (y ∷ ys) h =
    (λ a. let found = IsAmong-get y ys a in absurd (omega (arith, h 0 (suc found.0) y refl found.1)), AreDistinct-from_index ys (λ i j x e f. omega (arith, h (suc i) (suc j) x e f)))
