-- Lists of ids without one that stands twice.
use Rattle.std.proofs.Common.{List, [], eq-eqb, eqb-true, false, inl, inr, ne_eqb, refl, subst, true, ℕ, ◌++◌, ◌==◌, ◌∷◌, ◌≡◌, ◌⊎◌}
use Rattle.std.proofs.lemmas.Bool.{cases_Bool, eqb-false, false≢true}
use Rattle.page_laws.proofs.Options.{true-or, true-or-left, true-or-right}
use Rattle.page_model.specs.Document.{AreDistinct, IsAmong, is_among}

pub among-left : (x : ℕ) (xs ys : List ℕ) → IsAmong x xs → IsAmong x (xs ++ ys)
among-left x [] ys h = absurd h
among-left x (z ∷ zs) ys (inl e) = inl e
among-left x (z ∷ zs) ys (inr h) = inr (among-left x zs ys h)

pub among-right : (x : ℕ) (xs ys : List ℕ) → IsAmong x ys → IsAmong x (xs ++ ys)
among-right x [] ys h = h
among-right x (z ∷ zs) ys h = inr (among-right x zs ys h)

pub among-split : (x : ℕ) (xs ys : List ℕ) → IsAmong x (xs ++ ys) → IsAmong x xs ⊎ IsAmong x ys
among-split x [] ys h = inr h
among-split x (z ∷ zs) ys (inl e) = inl (inl e)
among-split x (z ∷ zs) ys (inr h) = elim (among-split x zs ys h) [
  | inl k ↦ inl (inr k)
  | inr k ↦ inr k
]

pub distinct-left : (xs ys : List ℕ) → AreDistinct (xs ++ ys) → AreDistinct xs
distinct-left [] ys d = tt
distinct-left (x ∷ xs) ys d = (λ h. d.0 (among-left x xs ys h), distinct-left xs ys d.1)

pub distinct-right : (xs ys : List ℕ) → AreDistinct (xs ++ ys) → AreDistinct ys
distinct-right [] ys d = d
distinct-right (x ∷ xs) ys d = distinct-right xs ys d.1

pub distinct-apart : (x : ℕ) (xs ys : List ℕ) → AreDistinct (xs ++ ys) → IsAmong x xs → IsAmong x ys → ⊥
distinct-apart x [] ys d h k = absurd h
distinct-apart x (z ∷ zs) ys d (inl e) k = d.0 (subst (λ (n : ℕ). IsAmong n (zs ++ ys)) e (among-right x zs ys k))
distinct-apart x (z ∷ zs) ys d (inr h) k = distinct-apart x zs ys d.1 h k

pub distinct-append : (xs ys : List ℕ) → AreDistinct xs → AreDistinct ys → ((x : ℕ) → IsAmong x xs → IsAmong x ys → ⊥) → AreDistinct (xs ++ ys)
distinct-append [] ys d e apart = e
distinct-append (x ∷ xs) ys d e apart = (
  λ h. elim (among-split x xs ys h) [
    | inl k ↦ d.0 k
    | inr k ↦ apart x (inl refl) k
  ],
  distinct-append xs ys d.1 e (λ z h k. apart z (inr h) k),
)

pub is_among-true : (x : ℕ) (xs : List ℕ) → is_among x xs ≡ true → IsAmong x xs
is_among-true x [] h = absurd (false≢true h)
is_among-true x (y ∷ ys) h = elim (true-or (x == y) (is_among x ys) h) [
  | inl t ↦ inl (eqb-true x y t)
  | inr k ↦ inr (is_among-true x ys k)
]

pub among-is_among : (x : ℕ) (xs : List ℕ) → IsAmong x xs → is_among x xs ≡ true
among-is_among x [] h = absurd h
among-is_among x (y ∷ ys) (inl e) = true-or-left (x == y) (is_among x ys) (eq-eqb x y e)
among-is_among x (y ∷ ys) (inr h) = true-or-right (x == y) (is_among x ys) (among-is_among x ys h)

pub not-among : (x : ℕ) (xs : List ℕ) → (IsAmong x xs → ⊥) → is_among x xs ≡ false
not-among x xs out = elim (cases_Bool (is_among x xs)) [
  | inl t ↦ absurd (out (is_among-true x xs t))
  | inr f ↦ f
]

pub among-other : (i id : ℕ) (xs : List ℕ) → AreDistinct (id ∷ xs) → IsAmong i xs → (i == id) ≡ false
among-other i id xs d h = ne_eqb i id (λ e. d.0 (subst (λ (k : ℕ). IsAmong k xs) e h))

pub among-rest : (j id : ℕ) (xs : List ℕ) → (j == id) ≡ false → IsAmong j (id ∷ xs) → IsAmong j xs
among-rest j id xs f (inl e) = absurd (eqb-false j id f e)
among-rest j id xs f (inr h) = h
