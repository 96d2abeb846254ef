-- The first cause that holds, where there is none.
use Rattle.std.proofs.Common.{Bool, None, Some, [], ap, cond, false, refl, true, ◌++◌, ◌||◌, ◌∙◌, ◌∷◌, ◌≡◌}
use Rattle.std.proofs.lemmas.Option.{none-some}
use Rattle.page_model.specs.Refusals.{Causes, first_of}
use Rattle.page_model.specs.declared.cause.Cause.{Cause}

pub first-false : (b : Bool) (c : Cause) (causes : Causes) → first_of ((b, c) ∷ causes) ≡ None → (b ≡ false) × (first_of causes ≡ None)
first-false true c causes h = absurd (cc)
first-false false c causes h = (refl, h)

pub first-none : (b : Bool) (c : Cause) (causes : Causes) → b ≡ false → first_of causes ≡ None → first_of ((b, c) ∷ causes) ≡ None
first-none false c causes h k = k
first-none true c causes h k = absurd (cc)

pub both-false : (a b : Bool) → a ≡ false → b ≡ false → (a || b) ≡ false
both-false false false h k = refl
both-false true b h k = absurd (cc)
both-false false true h k = absurd (cc)

-- where no cause of two lists holds, none of either does
pub append-none : (xs ys : Causes) → first_of (xs ++ ys) ≡ None → (first_of xs ≡ None) × (first_of ys ≡ None)
append-none [] ys h = (refl, h)
append-none (x ∷ xs) ys h =
    let head = first-false x.0 x.1 (xs ++ ys) h in
    let rest = append-none xs ys head.1 in
    (first-none x.0 x.1 xs head.0 rest.0, rest.1)

-- the first cause of two lists is that of the second where none of the first holds
pub append-second : (xs ys : Causes) → first_of xs ≡ None → first_of (xs ++ ys) ≡ first_of ys
append-second [] ys h = refl
append-second (x ∷ xs) ys h =
    let head = first-false x.0 x.1 xs h in
    ap (λ (b : Bool). cond b (Some x.1) (first_of (xs ++ ys))) head.0 ∙ append-second xs ys head.1

-- and that of the first where one of it holds
pub append-first : (xs ys : Causes) (c : Cause) → first_of xs ≡ Some c → first_of (xs ++ ys) ≡ Some c
append-first [] ys c h = absurd (none-some c h)
append-first ((true, d) ∷ xs) ys c h = h
append-first ((false, d) ∷ xs) ys c h = append-first xs ys c h
