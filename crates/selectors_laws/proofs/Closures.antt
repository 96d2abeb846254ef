-- Steps to what is near lead to all that is far.
use Rattle.std.proofs.Common.{◌≡◌, ◌∙◌, ◌⊎◌, ◌≤◌, ap, sym, subst, refl, inl, inr, arith, ℕ, zero, suc, ◌++◌, length, List, [], ◌∷◌}
use Rattle.std.proofs.lemmas.List.{length-append}
use Rattle.page_laws.proofs.IsAmong.{among-left, among-right, among-split}
use Rattle.page_model.specs.Document.{Node, IsAmong}
use Rattle.selectors_model.specs.declared.combinator.Combinator.{Combinator}
use Rattle.selectors_model.specs.Elements.{left_of}
use Rattle.selectors_laws.specs.Closures.{IsReached, one_step, next_step}

-- nothing is far; or one is near, and what is far is it and what is far from it
abbrev pub IsFar : (ℕ → List ℕ) → (ℕ → List ℕ) → (ℕ → Type 0) → ℕ → Type 0
IsFar far near Good i =
    ((far i ≡ []) × (near i ≡ []))
    ⊎ ((p : ℕ) × (near i ≡ p ∷ []) × (far i ≡ far p ++ (p ∷ [])) × Good p)

in-two : (x p : ℕ) (xs ys : List ℕ) → ys ≡ xs ++ (p ∷ []) → IsAmong x ys → IsAmong x xs ⊎ (x ≡ p)
in-two x p xs ys e h = elim (among-split x xs (p ∷ []) (subst (IsAmong x) e h)) [
  | inl k ↦ inl k
  | inr (inl k) ↦ inr k
  | inr (inr k) ↦ absurd k
]

first-of-two : (x p : ℕ) (xs ys : List ℕ) → ys ≡ xs ++ (p ∷ []) → IsAmong x xs → IsAmong x ys
first-of-two x p xs ys e h = subst (IsAmong x) (sym e) (among-left x xs (p ∷ []) h)

last-of-two : (p : ℕ) (xs ys : List ℕ) → ys ≡ xs ++ (p ∷ []) → IsAmong p ys
last-of-two p xs ys e = subst (IsAmong p) (sym e) (among-right p xs (p ∷ []) (inl refl))

shorter : (p n : ℕ) (xs ys : List ℕ) → ys ≡ xs ++ (p ∷ []) → length ys ≤ suc n → length xs ≤ n
shorter p n xs ys e h = omega (arith, h, ap length e ∙ length-append xs (p ∷ []))

not-empty : (p : ℕ) (xs ys : List ℕ) → ys ≡ xs ++ (p ∷ []) → length ys ≤ 0 → ⊥
not-empty p xs ys e h = omega (arith, h, ap length e ∙ length-append xs (p ∷ []))

-- ---- one step more in front

pub step-before : (root : Node) (c : Combinator) (i p e : ℕ) → IsAmong p (left_of c i root)
    → IsReached root c p e → IsReached root c i e
step-before root c i p e h (one_step _ k) = next_step p e (one_step p h) k
step-before root c i p e h (next_step d _ r k) = next_step d e (step-before root c i p d h r) k

-- ---- what is far is reached

pub far-reached : (root : Node) (c : Combinator) (far : ℕ → List ℕ) (Good : ℕ → Type 0)
    → ((i : ℕ) → Good i → IsFar far (λ j. left_of c j root) Good i)
    → (n i e : ℕ) → Good i → length (far i) ≤ n → IsAmong e (far i) → IsReached root c i e
far-reached root c far Good h zero i e g l m = elim (h i g) [
  | inl q ↦ absurd (subst (IsAmong e) q.0 m)
  | inr q ↦ absurd (not-empty q.0 (far q.0) (far i) q.2 l)
]
far-reached root c far Good h (suc n) i e g l m = elim (h i g) [
  | inl q ↦ absurd (subst (IsAmong e) q.0 m)
  | inr q ↦
      let near : IsAmong q.0 (left_of c i root) = subst (IsAmong q.0) (sym q.1) (inl refl) in
      elim (in-two e q.0 (far q.0) (far i) q.2 m) [
        | inl k ↦ step-before root c i q.0 e near
            (far-reached root c far Good h n q.0 e q.3 (shorter q.0 n (far q.0) (far i) q.2 l) k)
        | inr k ↦ one_step e (subst (λ (x : ℕ). IsAmong x (left_of c i root)) (sym k) near)
      ]
]

-- ---- what is reached is far

-- what is far is good, and what is far from it is far
abbrev FarAndGood : (ℕ → List ℕ) → (ℕ → Type 0) → ℕ → ℕ → Type 0
FarAndGood far Good i d = Good d × ((e : ℕ) → IsAmong e (far d) → IsAmong e (far i))

pub far-from-far : (far near : ℕ → List ℕ) (Good : ℕ → Type 0)
    → ((i : ℕ) → Good i → IsFar far near Good i)
    → (n i d : ℕ) → Good i → length (far i) ≤ n → IsAmong d (far i) → FarAndGood far Good i d
far-from-far far near Good h zero i d g l m = elim (h i g) [
  | inl q ↦ absurd (subst (IsAmong d) q.0 m)
  | inr q ↦ absurd (not-empty q.0 (far q.0) (far i) q.2 l)
]
far-from-far far near Good h (suc n) i d g l m = elim (h i g) [
  | inl q ↦ absurd (subst (IsAmong d) q.0 m)
  | inr q ↦ elim (in-two d q.0 (far q.0) (far i) q.2 m) [
    | inl k ↦
        let below =
        far-from-far far near Good h n q.0 d q.3 (shorter q.0 n (far q.0) (far i) q.2 l) k in
        (below.0, λ e a. first-of-two e q.0 (far q.0) (far i) q.2 (below.1 e a))
    | inr k ↦ subst (FarAndGood far Good i) (sym k)
        (q.3, λ e a. first-of-two e q.0 (far q.0) (far i) q.2 a)
  ]
]

near-far : (far near : ℕ → List ℕ) (Good : ℕ → Type 0) (i e : ℕ) → IsFar far near Good i
    → IsAmong e (near i) → IsAmong e (far i)
near-far far near Good i e (inl q) m = absurd (subst (IsAmong e) q.1 m)
near-far far near Good i e (inr q) m = elim (in-two e q.0 [] (near i) q.1 m) [
  | inl k ↦ absurd k
  | inr k ↦ subst (λ (x : ℕ). IsAmong x (far i)) (sym k) (last-of-two q.0 (far q.0) (far i) q.2)
]

pub reached-far : (root : Node) (c : Combinator) (far : ℕ → List ℕ) (Good : ℕ → Type 0)
    → ((i : ℕ) → Good i → IsFar far (λ j. left_of c j root) Good i)
    → (i e : ℕ) → Good i → IsReached root c i e → IsAmong e (far i)
reached-far root c far Good h i e g (one_step _ k) =
    near-far far (λ j. left_of c j root) Good i e (h i g) k
reached-far root c far Good h i e g (next_step d _ r k) =
    let on = far-from-far far (λ j. left_of c j root) Good h (length (far i)) i d g (omega arith)
    (reached-far root c far Good h i d g r) in
    on.1 e (near-far far (λ j. left_of c j root) Good d e (h d on.0) k)
