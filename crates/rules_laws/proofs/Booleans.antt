-- Two truth values joined.
use Rattle.std.proofs.Common.{◌≡◌, refl, ◌&&◌, ◌||◌, Bool, true, false}

pub and-left : (b c : Bool) → b && c ≡ true → b ≡ true
and-left true c e = refl
and-left false c e = cc

pub and-right : (b c : Bool) → b && c ≡ true → c ≡ true
and-right true c e = e
and-right false c e = cc

pub and-false : (b c : Bool) → c ≡ false → b && c ≡ false
and-false true c e = e
and-false false c e = refl

pub or-true : (b : Bool) → b || true ≡ true
or-true true = refl
or-true false = refl

pub or-right : (b c : Bool) → b || c ≡ false → c ≡ false
or-right true c e = cc
or-right false c e = e
