-- What is seen of sets of margins.
use Rattle.std.proofs.Common.{rules, arith, ◌∙◌, sym, ap, refl}
use Rattle.std.specs.Prelude.{◌≡◌, ℤ, pos, ◌≤ℤ◌, List, [], ◌∷◌, ◌++◌, map}
use Rattle.std.specs.Int.{int_min, int_max}
use Rattle.std.specs.List.{fold}
use Rattle.std.proofs.lemmas.Int.{ints, clamps}
use Rattle.std.proofs.lemmas.List.{map-append}
use Rattle.std.proofs.lemmas.List.Sums.{fold-append}
use Rattle.flow_laws.specs.Unions.{union_of}
use Rattle.flow_model.specs.declared.margins.Margins.{Margins}
use Rattle.flow_model.specs.MarginSets.{joined, seen}

max-rises : (a x : ℤ) → pos 0 ≤ℤ a → pos 0 ≤ℤ int_max a x
max-rises a x h = omega (arith, ints, clamps)

max-zero : (a : ℤ) → pos 0 ≤ℤ a → a ≡ int_max a (pos 0)
max-zero a h = omega (arith, ints, clamps)

zero-max : (a : ℤ) → pos 0 ≤ℤ a → a ≡ int_max (pos 0) a
zero-max a h = omega (arith, ints, clamps)

max-step : (a x r : ℤ) → pos 0 ≤ℤ a → int_max (int_max a x) r ≡ int_max a (int_max (int_max (pos 0) x) r)
max-step a x r h = omega (arith, ints, clamps)

pub max-of_zero : (x : ℤ) → pos 0 ≤ℤ int_max (pos 0) x
max-of_zero x = omega (arith, ints, clamps)

pub fold_max-not_negative : (a : ℤ) (xs : List ℤ) → pos 0 ≤ℤ a → pos 0 ≤ℤ fold int_max a xs
fold_max-not_negative a [] h = h
fold_max-not_negative a (x ∷ xs) h = fold_max-not_negative (int_max a x) xs (max-rises a x h)

pub fold_max : (a : ℤ) (xs : List ℤ) → pos 0 ≤ℤ a → fold int_max a xs ≡ int_max a (fold int_max (pos 0) xs)
fold_max a [] h = max-zero a h
fold_max a (x ∷ xs) h =
    fold_max (int_max a x) xs (max-rises a x h)
    ∙ (max-step a x (fold int_max (pos 0) xs) h
    ∙ ap (λ r. int_max a r) (sym (fold_max (int_max (pos 0) x) xs (max-of_zero x))))

min-falls : (a x : ℤ) → a ≤ℤ pos 0 → int_min a x ≤ℤ pos 0
min-falls a x h = omega (arith, ints, clamps)

min-zero : (a : ℤ) → a ≤ℤ pos 0 → a ≡ int_min a (pos 0)
min-zero a h = omega (arith, ints, clamps)

zero-min : (a : ℤ) → a ≤ℤ pos 0 → a ≡ int_min (pos 0) a
zero-min a h = omega (arith, ints, clamps)

min-step : (a x r : ℤ) → a ≤ℤ pos 0 → int_min (int_min a x) r ≡ int_min a (int_min (int_min (pos 0) x) r)
min-step a x r h = omega (arith, ints, clamps)

min-of_zero : (x : ℤ) → int_min (pos 0) x ≤ℤ pos 0
min-of_zero x = omega (arith, ints, clamps)

pub zero_not_positive : pos 0 ≤ℤ pos 0
zero_not_positive = omega (arith, ints)

pub fold_min-not_positive : (a : ℤ) (xs : List ℤ) → a ≤ℤ pos 0 → fold int_min a xs ≤ℤ pos 0
fold_min-not_positive a [] h = h
fold_min-not_positive a (x ∷ xs) h = fold_min-not_positive (int_min a x) xs (min-falls a x h)

pub fold_min : (a : ℤ) (xs : List ℤ) → a ≤ℤ pos 0 → fold int_min a xs ≡ int_min a (fold int_min (pos 0) xs)
fold_min a [] h = min-zero a h
fold_min a (x ∷ xs) h =
    fold_min (int_min a x) xs (min-falls a x h)
    ∙ (min-step a x (fold int_min (pos 0) xs) h
    ∙ ap (λ r. int_min a r) (sym (fold_min (int_min (pos 0) x) xs (min-of_zero x))))

-- a set before sets that are joined
pub joined_cons : (m : Margins) (ms : List Margins) → joined (m ∷ joined ms ∷ []) ≡ joined (m ∷ ms)
joined_cons m ms =
    let high = fold_max (int_max (pos 0) m.positive) (map (λ (n : Margins). n.positive) ms) (max-of_zero m.positive) in
    let low = fold_min (int_min (pos 0) m.negative) (map (λ (n : Margins). n.negative) ms) (min-of_zero m.negative) in
    λ j. record { positive = sym high j; negative = sym low j }

high-snoc : (xs : List ℤ) (x : ℤ) → fold int_max (pos 0) (xs ++ x ∷ []) ≡ int_max (int_max (pos 0) (fold int_max (pos 0) xs)) x
high-snoc xs x = fold-append int_max (pos 0) xs (x ∷ [])
    ∙ ap (λ r. int_max r x) (zero-max (fold int_max (pos 0) xs) (fold_max-not_negative (pos 0) xs zero_not_positive))

low-snoc : (xs : List ℤ) (x : ℤ) → fold int_min (pos 0) (xs ++ x ∷ []) ≡ int_min (int_min (pos 0) (fold int_min (pos 0) xs)) x
low-snoc xs x = fold-append int_min (pos 0) xs (x ∷ [])
    ∙ ap (λ r. int_min r x) (zero-min (fold int_min (pos 0) xs) (fold_min-not_positive (pos 0) xs zero_not_positive))

-- a set after sets that are joined
pub joined_snoc : (ms : List Margins) (m : Margins) → joined (ms ++ m ∷ []) ≡ joined (joined ms ∷ m ∷ [])
joined_snoc ms m =
    let highs = map-append (λ (n : Margins). n.positive) ms (m ∷ []) in
    let lows = map-append (λ (n : Margins). n.negative) ms (m ∷ []) in
    let high = ap (λ ns. fold int_max (pos 0) ns) highs ∙ high-snoc (map (λ (n : Margins). n.positive) ms) m.positive in
    let low = ap (λ ns. fold int_min (pos 0) ns) lows ∙ low-snoc (map (λ (n : Margins). n.negative) ms) m.negative in
    λ j. record { positive = high j; negative = low j }

high-append : (s t : List ℤ) → int_max (int_max (pos 0) (fold int_max (pos 0) s)) (fold int_max (pos 0) t) ≡ fold int_max (pos 0) (s ++ t)
high-append s t =
    let r = fold int_max (pos 0) s in
    let not_negative = fold_max-not_negative (pos 0) s zero_not_positive in
    ap (λ x. int_max x (fold int_max (pos 0) t)) (sym (zero-max r not_negative))
    ∙ (sym (fold_max r t not_negative) ∙ sym (fold-append int_max (pos 0) s t))

low-append : (s t : List ℤ) → int_min (int_min (pos 0) (fold int_min (pos 0) s)) (fold int_min (pos 0) t) ≡ fold int_min (pos 0) (s ++ t)
low-append s t =
    let r = fold int_min (pos 0) s in
    let not_positive = fold_min-not_positive (pos 0) s zero_not_positive in
    ap (λ x. int_min x (fold int_min (pos 0) t)) (sym (zero-min r not_positive))
    ∙ (sym (fold_min r t not_positive) ∙ sym (fold-append int_min (pos 0) s t))

seen-append : (s t : List ℤ) → joined (seen s ∷ seen t ∷ []) ≡ seen (s ++ t)
seen-append s t =
    let high = high-append s t in
    let low = low-append s t in
    λ j. record { positive = high j; negative = low j }

-- the sets of a list joined
pub joined-seen : (sets : List (List ℤ)) → joined (map seen sets) ≡ seen (union_of sets)
joined-seen [] = refl
joined-seen (s ∷ sets) = sym (joined_cons (seen s) (map seen sets))
    ∙ (ap (λ (m : Margins). joined (seen s ∷ m ∷ [])) (joined-seen sets) ∙ seen-append s (union_of sets))
