-- Facts of a stream, one after another.
use Rattle.std.proofs.Common.{◌≡◌, ℕ, ◌+◌, List, [], ◌++◌, length, Option, Some, None, refl, ap, sym, ◌∙◌, arith, append_assoc, length-append}
use Rattle.stream_model.specs.Streams.{FromTo, CountsFault, Grew, Takes, TakesCount}

pub FromTo-joins : (a b c : Option (List ℕ)) (R S T : List ℕ → List ℕ → Type 0)
    → ((x y z : List ℕ) → R x y → S y z → T x z) → FromTo a b R → FromTo b c S → FromTo a c T
FromTo-joins None None None R S T f r s = tt
FromTo-joins (Some x) (Some y) (Some z) R S T f r s = f x y z r s
FromTo-joins None None (Some z) R S T f r s = s
FromTo-joins None (Some y) c R S T f r s = absurd r
FromTo-joins (Some x) None c R S T f r s = absurd r
FromTo-joins (Some x) (Some y) None R S T f r s = absurd s

pub FromTo-weaker : (a b : Option (List ℕ)) (R S : List ℕ → List ℕ → Type 0)
    → ((x y : List ℕ) → R x y → S x y) → FromTo a b R → FromTo a b S
FromTo-weaker None None R S f r = tt
FromTo-weaker (Some x) (Some y) R S f r = f x y r
FromTo-weaker None (Some y) R S f r = r
FromTo-weaker (Some x) None R S f r = r

-- a stream from which nothing was taken
pub TakesCount-none : (a : Option (List ℕ)) (n : ℕ) → n ≡ 0 → TakesCount a a n
TakesCount-none None n e = tt
TakesCount-none (Some x) n e = ([], refl, sym e)

-- bytes that were taken are so many
pub TakesCount-takes : (a b : Option (List ℕ)) (bytes : List ℕ) → Takes a b bytes
    → TakesCount a b (length bytes)
TakesCount-takes a b bytes takes =
    FromTo-weaker a b (λ old new. old ≡ bytes ++ new) (λ old new. (front : List ℕ) × (old ≡ front ++ new) × (length front ≡ length bytes)) (λ x y e. (bytes, e, refl)) takes

-- so many bytes, and then so many
pub TakesCount-joins : (a b c : Option (List ℕ)) (n m k : ℕ) → n + m ≡ k → TakesCount a b n
    → TakesCount b c m → TakesCount a c k
TakesCount-joins a b c n m k e r s =
    FromTo-joins a b c (λ old new. (front : List ℕ) × (old ≡ front ++ new) × (length front ≡ n)) (λ old new. (front : List ℕ) × (old ≡ front ++ new) × (length front ≡ m)) (λ old new. (front : List ℕ) × (old ≡ front ++ new) × (length front ≡ k)) (λ x y z p q.
    (p.0 ++ q.0, p.1 ∙ (ap (λ w. p.0 ++ w) q.1 ∙ sym (append_assoc p.0 q.0 z)), omega (arith, length-append p.0 q.0, p.2, q.2))) r s

-- a count that grew by so many, and then by so many
pub Grew-joins : (a b c n m k : ℕ) → n + m ≡ k → Grew a n b → Grew b m c → Grew a k c
Grew-joins a b c n m k e r s = omega arith

-- a fault that was counted, where the count had stood still before
pub CountsFault-after : (a b c : ℕ) → b ≡ a → CountsFault b c → CountsFault a c
CountsFault-after a b c e f = rw (← e) f
