-- What holds of the value that is found, if one is.
use Rattle.std.proofs.Common.{◌≡◌, refl, Bool, true, false, inl, inr, if◌then◌else◌}
use Rattle.std.specs.Prelude.{Option, Some, None, IfSome, option_map, option_and_then}
use Rattle.std.specs.Option.{option_or}
use Rattle.std.proofs.lemmas.Bool.{cases_Bool}
use Rattle.value_model.specs.Forms.{if_it}

pub if-all : {X : Type 0} (P : X → Type 0) (o : Option X) → ((x : X) → P x) → IfSome o P
if-all P None h = tt
if-all P (Some x) h = h x

pub if-map : {X Y : Type 0} (f : X → Y) (P : Y → Type 0) (o : Option X)
    → IfSome o (λ x. P (f x)) → IfSome (option_map f o) P
if-map f P None h = tt
if-map f P (Some x) h = h

pub if-then : {X Y : Type 0} (f : X → Option Y) (P : Y → Type 0) (o : Option X)
    → IfSome o (λ x. IfSome (f x) P) → IfSome (option_and_then f o) P
if-then f P None h = tt
if-then f P (Some x) h = h

pub if-or : {X : Type 0} (P : X → Type 0) (o p : Option X) → IfSome o P → IfSome p P
    → IfSome (option_or o p) P
if-or P None p h k = k
if-or P (Some x) p h k = h

-- what meets a condition
pub if-test : {X : Type 0} (test : X → Bool) (P : X → Type 0) (o : Option X)
    → IfSome o (λ x. test x ≡ true → P x) → IfSome (if_it test o) P
if-test test P None h = tt
if-test test P (Some x) h = elim (cases_Bool (test x)) [
  | inl met ↦ rw met (h met)
  | inr unmet ↦ rw unmet tt
]

-- one of two, by a test
pub if-either : {X : Type 0} (b : Bool) (P : X → Type 0) (o p : Option X)
    → (b ≡ true → IfSome o P) → (b ≡ false → IfSome p P) → IfSome (if b then o else p) P
if-either true P o p h k = h refl
if-either false P o p h k = k refl

pub from-if : {X : Type 0} (P : X → Type 0) (o : Option X) (x : X) → o ≡ Some x → IfSome o P → P x
from-if P o x e h = rw e at h
