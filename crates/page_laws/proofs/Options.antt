-- Options and truth values: searches that go on where a first one found nothing.
use Rattle.std.proofs.Common.{Bool, IsSome, None, Option, Some, cond, false, inl, inr, is_none, is_some, option_map, refl, suc, sym, true, ℕ, ◌&&◌, ◌||◌, ◌≡◌, ◌⊎◌}
use Rattle.std.proofs.lemmas.Bool.{false≢true}
use Rattle.std.proofs.lemmas.Option.{none-some, same_Some}
use Rattle.page_model.specs.Document.{or_else}

pub none-or-some : {X : Type 0} (o : Option X) → (o ≡ None) ⊎ ((x : X) × (o ≡ Some x))
none-or-some None = inl refl
none-or-some (Some x) = inr (x, refl)

pub some-is : {X : Type 0} (o : Option X) → is_some o ≡ true → (x : X) × (o ≡ Some x)
some-is (Some x) h = (x, refl)
some-is None h = absurd (false≢true h)

pub some-or : {X : Type 0} (o p : Option X) → is_some (or_else o p) ≡ true → (is_some o ≡ true) ⊎ (is_some p ≡ true)
some-or (Some x) p h = inl refl
some-or None p h = inr h

pub or-some-left : {X : Type 0} (o p : Option X) → is_some o ≡ true → is_some (or_else o p) ≡ true
or-some-left (Some x) p h = refl
or-some-left None p h = absurd (false≢true h)

pub or-some-right : {X : Type 0} (o p : Option X) → is_some p ≡ true → is_some (or_else o p) ≡ true
or-some-right (Some x) p h = refl
or-some-right None p h = h

pub if-found : {X : Type 0} (b : Bool) (x y : X) (o : Option X) → cond b (Some x) o ≡ Some y → ((b ≡ true) × (Some x ≡ Some y)) ⊎ ((b ≡ false) × (o ≡ Some y))
if-found true x y o h = inl (refl, h)
if-found false x y o h = inr (refl, h)

pub or-found : {X : Type 0} (o p : Option X) (y : X) → or_else o p ≡ Some y → (o ≡ Some y) ⊎ ((o ≡ None) × (p ≡ Some y))
or-found (Some x) p y h = inl h
or-found None p y h = inr (refl, h)

pub or-first : {X : Type 0} (o p : Option X) → is_some o ≡ true → or_else o p ≡ o
or-first (Some x) p h = refl
or-first None p h = absurd (false≢true h)

pub or-second : {X : Type 0} (o p : Option X) → (is_some o ≡ true → ⊥) → or_else o p ≡ p
or-second (Some x) p h = absurd (h refl)
or-second None p h = refl

pub or-none : {X : Type 0} (o : Option X) → or_else o None ≡ o
or-none (Some x) = refl
or-none None = refl

pub or-map : {X Y : Type 0} (f : X → Y) (o p : Option X) → or_else (option_map f o) (option_map f p) ≡ option_map f (or_else o p)
or-map f (Some x) p = refl
or-map f None p = refl

pub is_some-or_else : {X : Type 0} (o p : Option X) → is_some (or_else o p) ≡ is_some o || is_some p
is_some-or_else (Some x) p = refl
is_some-or_else None p = refl

pub is_some-both : {X Y : Type 0} (o p : Option X) (q r : Option Y) → is_some o ≡ is_some q → is_some p ≡ is_some r → is_some (or_else o p) ≡ is_some (or_else q r)
is_some-both (Some x) p (Some y) r h k = refl
is_some-both None p None r h k = k
is_some-both (Some x) p None r h k = absurd (false≢true (sym h))
is_some-both None p (Some y) r h k = absurd (false≢true h)

pub true-or : (a b : Bool) → (a || b) ≡ true → (a ≡ true) ⊎ (b ≡ true)
true-or true b h = inl refl
true-or false b h = inr h

pub true-or-left : (a b : Bool) → a ≡ true → (a || b) ≡ true
true-or-left a b h = rw h refl

pub true-or-right : (a b : Bool) → b ≡ true → (a || b) ≡ true
true-or-right true b h = refl
true-or-right false b h = h

pub some-not-none : {X : Type 0} (o : Option X) → IsSome o → is_none o ≡ false
some-not-none (Some x) h = refl
some-not-none None h = absurd (false≢true h)

-- one level below
pub suc-some : (o : Option ℕ) (l : ℕ) → option_map (λ k. suc k) o ≡ Some l → (k : ℕ) × (o ≡ Some k) × (l ≡ suc k)
suc-some (Some k) l h = (k, refl, sym (same_Some (suc k) l h))
suc-some None l h = absurd (none-some l h)

pub or-false-right : (a : Bool) → (a || false) ≡ a
or-false-right true = refl
or-false-right false = refl

pub or-false : (a b : Bool) → (a || b) ≡ false → (a ≡ false) × (b ≡ false)
or-false true b h = absurd (false≢true (sym h))
or-false false b h = (refl, h)

pub both-true : (a b : Bool) → (a && b) ≡ true → (a ≡ true) × (b ≡ true)
both-true true b h = (refl, h)
both-true false b h = absurd (false≢true h)

pub not-none : {X : Type 0} (o : Option X) → is_none o ≡ false → (x : X) × (o ≡ Some x)
not-none (Some x) h = (x, refl)
not-none None h = absurd (false≢true (sym h))
