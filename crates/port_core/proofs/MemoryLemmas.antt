-- How far a source in memory goes before it fails.
use Rattle.std.proofs.Common.{◌≡◌, ℕ, ◌<◌, ◌≤◌, Option, Some, None, false, refl, arith}
use Rattle.std.proofs.lemmas.Bool.{eqb-false}
use Rattle.std.specs.Option.{ForSome}
use Rattle.port_core.specs.Memory.{is_at, count_before}

-- before the failing place there is a byte to give, where there is one at all
pub count_before-bounds : (fail_at : Option ℕ) (taken count : ℕ) → is_at fail_at taken ≡ false
    → ForSome fail_at (λ at. taken ≤ at) → 0 < count
    → (0 < count_before fail_at taken count) × (count_before fail_at taken count ≤ count)
count_before-bounds None taken count away ahead some = (some, omega arith)
count_before-bounds (Some at) taken count away ahead some =
    let apart : taken ≡ at → ⊥ = eqb-false taken at away in
    let before : taken ≤ at = ahead at refl in
    (omega arith, omega arith)
