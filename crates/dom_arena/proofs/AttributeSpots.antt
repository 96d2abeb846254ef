-- The attributes with and without the one at a spot.
use Rattle.std.proofs.Common.{List, [], ap, arith, drop, eq-eqb, false, inl, inr, length, refl, subst, suc, sym, take, true, zero, ℕ, ◌++◌, ◌+◌, ◌∙◌, ◌∷◌, ◌≡◌, ◌≤◌}
use Rattle.std.proofs.lemmas.Bool.{cases_Bool, false≢true}
use Rattle.std.specs.Prelude.{Result, Ok, Err, OnOk, OnErr}
use Rattle.dom_arena.proofs.Lists.{length-slice_set}
use Rattle.dom_arena.specs.Spots.{IsWithin, attributes_with, attributes_without, behind, count_with, length_at, spot_of}
use Rattle.dom_arena.specs.declared.spots.Spot.{Spot}
use Rattle.dom_arena.specs.declared.spots.Spot.TheVariants.{At, Before}
use Rattle.page_laws.proofs.AttributesInOrder.{leads, less-then-less, order-tail, order-with, other-text, same-text}
use Rattle.page_laws.proofs.Options.{both-true}
use Rattle.page_model.specs.Attributes.{are_in_order, is_less_text, is_same_text, with_attribute, without_attribute}
use Rattle.page_model.specs.Trees.{Attribute, Text, value_size}

-- ---- texts

-- no text is less than itself
not-less : (cs : Text) → is_less_text cs cs ≡ true → ⊥
not-less [] h = false≢true h
not-less (c ∷ cs) h = not-less cs (rw (eq-eqb c c refl) at h)

less-other : (cs ds : Text) → is_less_text cs ds ≡ true → is_same_text cs ds ≡ false
less-other cs ds h = other-text cs ds (λ e. not-less ds (subst (λ (t : Text). is_less_text t ds ≡ true) e h))

-- ---- spots

pub spot-within : (name : Text) (xs : List Attribute) → IsWithin (spot_of name xs) (length xs)
spot-within name [] = omega arith
spot-within name (a ∷ xs) = elim (cases_Bool (is_same_text name a.0)) [
  | inl t ↦ rw t (omega arith)
  | inr f ↦ elim (cases_Bool (is_less_text name a.0)) [
    | inl t ↦ rw (f, t) (omega arith)
    | inr g ↦ rw (f, g) (later (spot_of name xs) (spot-within name xs))
  ]
]
  where
    later : (s : Spot) → IsWithin s (length xs) → IsWithin (behind 1 s) (suc (length xs))
    later (At i) w = omega (arith, w)
    later (Before i) w = omega (arith, w)

add-suc : (i : ℕ) → 1 + i ≡ suc i
add-suc i = omega arith

-- what is put there is the attribute that is set
pub spot-with : (name value : Text) (xs : List Attribute) → attributes_with (spot_of name xs) (name, value) xs ≡ with_attribute name value xs
spot-with name value [] = refl
spot-with name value (a ∷ xs) = elim (cases_Bool (is_same_text name a.0)) [
  | inl t ↦ rw t refl
  | inr f ↦ elim (cases_Bool (is_less_text name a.0)) [
    | inl t ↦ rw (f, t) refl
    | inr g ↦ rw (f, g) (later (spot_of name xs) ∙ ap (λ ys. a ∷ ys) (spot-with name value xs))
  ]
]
  where
    later : (s : Spot) → attributes_with (behind 1 s) (name, value) (a ∷ xs) ≡ a ∷ attributes_with s (name, value) xs
    later (At i) = rw (add-suc i) refl
    later (Before i) = rw (add-suc i) refl

-- ---- without the attribute

leads-behind : (n : Text) (a : Attribute) (xs : List Attribute) → is_less_text n a.0 ≡ true → are_in_order (a ∷ xs) ≡ true → leads n xs ≡ true
leads-behind n a [] h o = refl
leads-behind n a (b ∷ xs) h o = less-then-less n a.0 b.0 h (both-true (is_less_text a.0 b.0) (are_in_order (b ∷ xs)) o).0

-- a name that leads a list in order is not in it
without-led : (name : Text) (xs : List Attribute) → leads name xs ≡ true → are_in_order xs ≡ true → without_attribute name xs ≡ xs
without-led name [] h o = refl
without-led name (a ∷ xs) h o = rw (less-other name a.0 h) (ap (λ ys. a ∷ ys) (without-led name xs (leads-behind name a xs h o) (order-tail a xs o)))

order-led : (a : Attribute) (xs : List Attribute) → are_in_order (a ∷ xs) ≡ true → leads a.0 xs ≡ true
order-led a [] o = refl
order-led a (b ∷ xs) o = (both-true (is_less_text a.0 b.0) (are_in_order (b ∷ xs)) o).0

pub spot-without : (name : Text) (xs : List Attribute) → are_in_order xs ≡ true → attributes_without (spot_of name xs) xs ≡ without_attribute name xs
spot-without name [] o = refl
spot-without name (a ∷ xs) o = elim (cases_Bool (is_same_text name a.0)) [
  | inl t ↦
      let led : leads name xs ≡ true = subst (λ (n : Text). leads n xs ≡ true) (sym (same-text name a.0 t)) (order-led a xs o) in
      rw t (sym (without-led name xs led (order-tail a xs o)))
  | inr f ↦ elim (cases_Bool (is_less_text name a.0)) [
    | inl t ↦ rw (f, t) (ap (λ ys. a ∷ ys) (sym (without-led name xs (leads-behind name a xs t o) (order-tail a xs o))))
    | inr g ↦ rw (f, g) (later (spot_of name xs) ∙ ap (λ ys. a ∷ ys) (spot-without name xs (order-tail a xs o)))
  ]
]
  where
    later : (s : Spot) → attributes_without (behind 1 s) (a ∷ xs) ≡ a ∷ attributes_without s xs
    later (At i) = rw (add-suc i) refl
    later (Before i) = refl

-- ---- sizes

pub spot-count : (name value : Text) (xs : List Attribute) → count_with (spot_of name xs) (length xs) ≡ length (with_attribute name value xs)
spot-count name value xs = by-spot (spot_of name xs) (spot-within name xs) ∙ ap length (spot-with name value xs)
  where
    by-spot : (s : Spot) → IsWithin s (length xs) → count_with s (length xs) ≡ length (attributes_with s (name, value) xs)
    by-spot (At i) w = sym (length-slice_set xs i (name, value))
    by-spot (Before i) w = sym (length-insert xs i)
      where
        length-insert : (ys : List Attribute) (j : ℕ) → length (take j ys ++ (name, value) ∷ drop j ys) ≡ length ys + 1
        length-insert ys zero = omega arith
        length-insert [] (suc j) = refl
        length-insert (y ∷ ys) (suc j) = let rest = length-insert ys j in omega (arith, rest)

length-behind : (a : Attribute) (xs : List Attribute) (s : Spot) → length_at (behind 1 s) (a ∷ xs) ≡ length_at s xs
length-behind a xs (At i) = rw (add-suc i) refl
length-behind a xs (Before i) = refl

-- the sizes with another value: what is at the spot goes, and the new value comes
pub spot-size : (name value : Text) (xs : List Attribute) → value_size (with_attribute name value xs) + length_at (spot_of name xs) xs ≡ value_size xs + length value
spot-size name value [] = omega arith
spot-size name value (a ∷ xs) = elim (cases_Bool (is_same_text name a.0)) [
  | inl t ↦ rw t (omega arith)
  | inr f ↦ elim (cases_Bool (is_less_text name a.0)) [
    | inl t ↦ rw (f, t) (omega arith)
    | inr g ↦
        let rest = spot-size name value xs in
        let same : length_at (behind 1 (spot_of name xs)) (a ∷ xs) ≡ length_at (spot_of name xs) xs = length-behind a xs (spot_of name xs) in
        rw (f, g, same) (omega (arith, rest))
  ]
]

-- what is left is without the value at the spot
size-left : (xs : List Attribute) (s : Spot) → value_size (attributes_without s xs) + length_at s xs ≡ value_size xs
size-left xs (Before i) = omega arith
size-left [] (At zero) = refl
size-left [] (At (suc i)) = refl
size-left (x ∷ xs) (At zero) = omega arith
size-left (x ∷ xs) (At (suc i)) = let rest = size-left xs (At i) in omega (arith, rest)

pub spot-length : (xs : List Attribute) (s : Spot) → length_at s xs ≤ value_size xs
spot-length xs s = let left = size-left xs s in omega (arith, left)

pub spot-size-without : (name : Text) (xs : List Attribute) → are_in_order xs ≡ true → value_size (without_attribute name xs) + length_at (spot_of name xs) xs ≡ value_size xs
spot-size-without name xs o = rw (← spot-without name xs o) (size-left xs (spot_of name xs))

-- ---- what a call that sets an attribute leaves

pub set-put : {X E : Type 0} (r : Result X E) (xs ys : List Attribute) (spot : Spot) (name value n v : Text) → spot ≡ spot_of name xs → n ≡ name → v ≡ value
    → OnOk r (ys ≡ attributes_with spot (n, v) xs) → OnOk r (ys ≡ with_attribute name value xs)
set-put (Ok x) xs ys spot name value n v s p q e = e ∙ ((λ j. attributes_with (s j) (p j, q j) xs) ∙ spot-with name value xs)
set-put (Err x) xs ys spot name value n v s p q e = e

pub order-put : {X E : Type 0} (r : Result X E) (xs ys : List Attribute) (name value : Text) → are_in_order xs ≡ true → OnOk r (ys ≡ with_attribute name value xs) → OnErr r (ys ≡ xs) → are_in_order ys ≡ true
order-put (Ok x) xs ys name value o e same = ap are_in_order e ∙ order-with name value xs o
order-put (Err x) xs ys name value o e same = ap are_in_order same ∙ o
