-- A name that is greater than the last is greater than all.
use Rattle.std.proofs.Common.{Bool, Equal, Greater, Less, List, [], ap, arith, cond, eq-eqb, false, inl, inr, length, refl, slice_index_or, suc, sym, true, zero, ℕ, ◌∙◌, ◌∷◌, ◌≡◌}
use Rattle.std.proofs.lemmas.Bool.{cases_Bool, false≢true}
use Rattle.dom_arena.specs.Spots.{behind, order_of, spot_of}
use Rattle.dom_arena.specs.declared.spots.Spot.TheVariants.{At, Before}
use Rattle.page_laws.proofs.AttributesInOrder.{less-or-more, less-then-less, order-tail, same-text}
use Rattle.page_laws.proofs.Options.{both-true}
use Rattle.page_model.specs.Attributes.{are_in_order, is_less_text, is_same_text}
use Rattle.page_model.specs.Trees.{Attribute, Text}

less-never : (cs : Text) → is_less_text cs cs ≡ true → ⊥
less-never [] h = false≢true h
less-never (c ∷ cs) h = less-never cs (sym (rw (eq-eqb c c refl) refl) ∙ h)

-- a text is greater than another
greater-parts : (name cs : Text) → order_of name cs ≡ Greater → (is_same_text name cs ≡ false) × (is_less_text name cs ≡ false)
greater-parts name cs = by-test (is_same_text name cs) (is_less_text name cs)
  where
    by-test : (b l : Bool) → cond b Equal (cond l Less Greater) ≡ Greater → (b ≡ false) × (l ≡ false)
    by-test true l q = absurd (cc q)
    by-test false true q = absurd (cc q)
    by-test false false q = (refl, refl)

greater-less : (name cs : Text) → order_of name cs ≡ Greater → is_less_text cs name ≡ true
greater-less name cs h = let parts = greater-parts name cs h in less-or-more name cs parts.0 parts.1

less-greater : (name cs : Text) → is_less_text cs name ≡ true → (is_same_text name cs ≡ false) × (is_less_text name cs ≡ false)
less-greater name cs h = (
  elim (cases_Bool (is_same_text name cs)) [
    | inl t ↦ absurd (less-never name (ap (λ (x : Text). is_less_text x name) (same-text name cs t) ∙ h))
    | inr f ↦ f
  ],
  elim (cases_Bool (is_less_text name cs)) [
    | inl t ↦ absurd (less-never name (less-then-less name cs name t h))
    | inr f ↦ f
  ],
)

last-more : (a : Attribute) (xs : List Attribute) (i : ℕ) (b : Attribute) → suc i ≡ length xs → b ≡ slice_index_or xs i b → are_in_order (a ∷ xs) ≡ true → is_less_text a.0 b.0 ≡ true
last-more a [] i b w e o = absurd (omega (arith, w))
last-more a (x ∷ []) zero b w e o = ap (λ (y : Attribute). is_less_text a.0 y.0) e ∙ (both-true (is_less_text a.0 x.0) (are_in_order (x ∷ [])) o).0
last-more a (x ∷ []) (suc i) b w e o = absurd (omega (arith, w))
last-more a (x ∷ y ∷ ys) zero b w e o = absurd (omega (arith, w))
last-more a (x ∷ y ∷ ys) (suc i) b w e o =
    let parts = both-true (is_less_text a.0 x.0) (are_in_order (x ∷ y ∷ ys)) o in
    less-then-less a.0 x.0 b.0 parts.0 (last-more x (y ∷ ys) i b (omega (arith, w)) e parts.1)

greater-spot : (name : Text) (x : Attribute) (xs : List Attribute) (n : ℕ) → is_same_text name x.0 ≡ false → is_less_text name x.0 ≡ false → spot_of name xs ≡ Before n
    → spot_of name (x ∷ xs) ≡ Before (suc n)
greater-spot name x xs n s l e = by-test (is_same_text name x.0) (is_less_text name x.0) s l ∙ (ap (behind 1) e ∙ ap Before (omega arith))
  where
    by-test : (b c : Bool) → b ≡ false → c ≡ false → cond b (At 0) (cond c (Before 0) (behind 1 (spot_of name xs))) ≡ behind 1 (spot_of name xs)
    by-test false false p q = refl
    by-test true c p q = absurd (cc p)
    by-test false true p q = absurd (cc q)

pub spot-behind : (name : Text) (xs : List Attribute) (i : ℕ) (b : Attribute) → suc i ≡ length xs → b ≡ slice_index_or xs i b → are_in_order xs ≡ true → order_of name b.0 ≡ Greater
    → spot_of name xs ≡ Before (length xs)
spot-behind name [] i b w e o g = refl
spot-behind name (x ∷ []) zero b w e o g =
    let parts = greater-parts name x.0 (ap (λ (y : Attribute). order_of name y.0) (sym e) ∙ g) in
    greater-spot name x [] 0 parts.0 parts.1 refl
spot-behind name (x ∷ []) (suc i) b w e o g = absurd (omega (arith, w))
spot-behind name (x ∷ y ∷ ys) zero b w e o g = absurd (omega (arith, w))
spot-behind name (x ∷ y ∷ ys) (suc i) b w e o g =
    let less : is_less_text x.0 b.0 ≡ true = last-more x (y ∷ ys) i b (omega (arith, w)) e o in
    let parts = less-greater name x.0 (less-then-less x.0 b.0 name less (greater-less name b.0 g)) in
    greater-spot name x (y ∷ ys) (length (y ∷ ys)) parts.0 parts.1 (spot-behind name (y ∷ ys) i b (omega (arith, w)) e (order-tail x (y ∷ ys) o) g)
