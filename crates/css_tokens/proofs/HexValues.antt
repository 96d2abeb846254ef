-- What hex digits write, up to a limit.
use Rattle.std.proofs.Common.{◌≡◌, ◌∙◌, sym, ap, ℕ, ◌+◌, ◌*◌, ◌<◌, min, [], ◌∷◌, length, get_or, drop, drop-cons, add-one, arith}
use Rattle.css_model.specs.Classes.{Text}
use Rattle.css_model.specs.Parts.{hex_digit_value, hex_value_after}

-- a digit behind a number that was limited
one-digit : (l m d : ℕ) → min l (min l m * 16 + d) ≡ min l (m * 16 + d)
one-digit l m d = omega arith

hex-limited : (l m : ℕ) (cs : Text) → min l (hex_value_after (min l m) cs) ≡ min l (hex_value_after m cs)
hex-limited l m [] = omega arith
hex-limited l m (c ∷ cs) =
    let d : ℕ = hex_digit_value c in
    sym (hex-limited l (min l m * 16 + d) cs) ∙ (ap (λ n. min l (hex_value_after n cs)) (one-digit l m d) ∙ hex-limited l (m * 16 + d) cs)

-- one digit more was read
pub hex-more : (l m m' : ℕ) (cs : Text) (i d : ℕ) → i < length cs → m' ≡ min (m * 16 + hex_digit_value (get_or cs i d)) l → min l (hex_value_after m' (drop (i + 1) cs)) ≡ min l (hex_value_after m (drop i cs))
hex-more l m m' cs i d h e =
    let v : ℕ = hex_digit_value (get_or cs i d) in
    let limited : m' ≡ min l (m * 16 + v) = omega (arith, e) in
    rw limited (rw (drop-cons cs i d) (hex-limited l (m * 16 + v) (drop (i + 1) cs) ∙ ap (λ n. min l (hex_value_after (m * 16 + v) (drop n cs))) (add-one i)))
