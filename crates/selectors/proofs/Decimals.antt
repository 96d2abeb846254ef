-- The number that digits write, clamped.
use Rattle.std.proofs.Common.{◌≡◌, ◌∙◌, ap, sym, ℕ, suc, ◌+◌, ◌-◌, ◌*◌, ◌<◌, min, List, [], ◌∷◌, length, drop, drop-cons, get_or, add-one, arith}
use Rattle.css_model.specs.Numerals.{decimal_after}

-- clamping before more digits changes nothing
decimal-clamped : (most v : ℕ) (digits : List ℕ)
    → min most (decimal_after (min most v) digits) ≡ min most (decimal_after v digits)
decimal-clamped most v [] = omega arith
decimal-clamped most v (d ∷ digits) =
    let one : min most (min most v * 10 + (d - 48)) ≡ min most (v * 10 + (d - 48)) = omega arith in
    sym (decimal-clamped most (min most v * 10 + (d - 48)) digits)
    ∙ (ap (λ n. min most (decimal_after n digits)) one
    ∙ decimal-clamped most (v * 10 + (d - 48)) digits)

-- one more digit was read
pub decimal-step : (digits : List ℕ) (i v next : ℕ) → i < length digits
    → next ≡ min 1000000000 (v * 10 + (get_or digits i 0 - 48))
    → min 1000000000 (decimal_after next (drop (i + 1) digits)) ≡ min 1000000000 (decimal_after v (drop i digits))
decimal-step digits i v next h is =
    rw (is, add-one, drop-cons digits i 0 h)
    (decimal-clamped 1000000000 (v * 10 + (get_or digits i 0 - 48)) (drop (suc i) digits))
