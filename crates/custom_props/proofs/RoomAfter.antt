-- How many tokens may follow, one component value after another.
use Rattle.std.proofs.Common.{◌≡◌, ◌∙◌, ap, sym, refl, ℕ, zero, suc, ◌+◌, ◌-◌, ◌<◌, ◌≤◌, ◌⊎◌, max, nat_le, ◌&&◌, length, length-append, List, [], ◌∷◌, ◌++◌, true, inl, inr, Option, Some, None, option_map, option_and_then, arith}
use Rattle.std.proofs.lemmas.Bool.{cases_Bool}
use Rattle.std.proofs.lemmas.Bool.Decides.{nat_tests}
use Rattle.css_model.specs.declared.token.Token.{Token}
use Rattle.css_model.specs.declared.token.TheConstants.{MAX_NESTING}
use Rattle.css_model.specs.Components.{Component, preserved, simple_block, function_block, Components, no_components, component, all_tokens_of, tokens_of, close_tokens, depths}
use Rattle.css_model.specs.inner.Nesting.{followed}
use Rattle.custom_model.specs.declared.limits.TheConstants.{MAX_SUBSTITUTED_TOKENS}
use Rattle.custom_model.specs.Substitution.{both_followed, if_within, one_component}
use Rattle.custom_props.specs.inner.Rooms.{room_of, room_after, room_after_one, room_after_token, room_in}

-- ---- numbers

room-within : (t l n d : ℕ) → n ≤ t → d ≤ l → room_of t l n d ≡ Some (t - n)
room-within t l n d h k = rw (nat-le n t h, nat-le d l k) refl
  where
    nat-le : (a b : ℕ) → a ≤ b → nat_le a b ≡ true
    nat-le a b h = grind (arith, nat_tests)

room-over : (t l n d : ℕ) → (n ≤ t → d ≤ l → ⊥) → room_of t l n d ≡ None
room-over t l n d h = elim (cases_Bool (nat_le n t)) [
  | inl a ↦ elim (cases_Bool (nat_le d l)) [
    | inl b ↦ absurd (h (le n t a) (le d l b))
    | inr b ↦ rw (a, b) refl
  ]
  | inr a ↦ rw a refl
]
  where
    le : (a b : ℕ) → nat_le a b ≡ true → a ≤ b
    le a b h = grind (arith, nat_tests)

within-or-over : (t n : ℕ) → (n ≤ t) ⊎ (t < n)
within-or-over t n = elim (cases_Bool (nat_le n t)) [
  | inl a ↦ inl (grind (arith, nat_tests))
  | inr a ↦ inr (grind (arith, nat_tests))
]

-- one after the other
room-sum : (t l n d m e : ℕ)
    → room_of t l (n + m) (max d e) ≡ option_and_then (λ u. room_of u l m e) (room_of t l n d)
room-sum t l n d m e = elim (within-or-over t n) [
  | inl a ↦ elim (within-or-over l d) [
    | inl b ↦ rw (room-within t l n d a b) (elim (within-or-over (t - n) m) [
      | inl c ↦ elim (within-or-over l e) [
        | inl f ↦
            room-within t l (n + m) (max d e) (omega (arith, a, c)) (omega (arith, b, f))
            ∙ (ap Some (omega (arith, a, c)) ∙ sym (room-within (t - n) l m e c f))
        | inr f ↦
            room-over t l (n + m) (max d e) (λ h k. omega (arith, f, k))
            ∙ sym (room-over (t - n) l m e (λ h k. omega (arith, f, k)))
      ]
      | inr c ↦
          room-over t l (n + m) (max d e) (λ h k. omega (arith, a, c, h))
          ∙ sym (room-over (t - n) l m e (λ h k. omega (arith, c, h)))
    ])
    | inr b ↦
        room-over t l (n + m) (max d e) (λ h k. omega (arith, b, k))
        ∙ sym (ap (option_and_then (λ u. room_of u l m e)) (room-over t l n d (λ h k. omega (arith, b, k))))
  ]
  | inr a ↦
      room-over t l (n + m) (max d e) (λ h k. omega (arith, a, h))
      ∙ sym (ap (option_and_then (λ u. room_of u l m e)) (room-over t l n d (λ h k. omega (arith, a, h))))
]

-- ---- component values

tokens-followed : (cs ds : Components) → length (all_tokens_of (followed cs ds)) ≡ length (all_tokens_of cs) + length (all_tokens_of ds)
tokens-followed no_components ds = omega arith
tokens-followed (component c cs) ds =
    length-append (tokens_of c) (all_tokens_of (followed cs ds))
    ∙ omega (arith, tokens-followed cs ds, length-append (tokens_of c) (all_tokens_of cs))

depths-followed : (cs ds : Components) → depths (followed cs ds) ≡ max (depths cs) (depths ds)
depths-followed no_components ds = omega arith
depths-followed (component c cs) ds =
    let more : depths (followed cs ds) ≡ max (depths cs) (depths ds) = depths-followed cs ds in
    omega (arith, more)

pub room_none : (t l : ℕ) → room_after t l no_components ≡ Some t
unfolding room_after
room_none t l = room-within t l 0 0 (omega arith) (omega arith) ∙ ap Some (omega arith)

room-followed : (t l : ℕ) (cs ds : Components)
    → room_after t l (followed cs ds) ≡ option_and_then (λ u. room_after u l ds) (room_after t l cs)
unfolding room_after
room-followed t l cs ds =
    ap (λ n. room_of t l n (depths (followed cs ds))) (tokens-followed cs ds)
    ∙ (ap (λ d. room_of t l (length (all_tokens_of cs) + length (all_tokens_of ds)) d) (depths-followed cs ds)
    ∙ room-sum t l (length (all_tokens_of cs)) (depths cs) (length (all_tokens_of ds)) (depths ds))

-- what is after both
pub room_both : (t l : ℕ) (o p : Option Components)
    → option_and_then (room_after t l) (both_followed o p)
    ≡ option_and_then (λ u. option_and_then (room_after u l) p) (option_and_then (room_after t l) o)
room_both t l None p = refl
room_both t l (Some cs) None = nothing (room_after t l cs)
  where
    nothing : (r : Option ℕ) → None ≡ option_and_then (λ (u : ℕ). option_and_then (room_after u l) None) r
    nothing None = refl
    nothing (Some u) = refl
room_both t l (Some cs) (Some ds) = room-followed t l cs ds

pub room_cons : (t l : ℕ) (c : Component) (cs : Components)
    → room_after t l (component c cs) ≡ option_and_then (λ u. room_after u l cs) (room_after_one t l c)
room_cons t l c cs = room-followed t l (one_component c) cs

pub room_token : (t l : ℕ) (token : Token) → room_after_one t l (preserved token) ≡ room_after_token t
unfolding room_after
room_token zero l token = room-over zero l 1 0 (λ h k. omega (arith, h))
room_token (suc t) l token = room-within (suc t) l 1 0 (omega arith) (omega arith) ∙ ap Some (omega arith)

-- ---- brackets

-- the tokens of a pair of brackets beside its contents
abbrev close-count : Option Token → ℕ
close-count None = 0
close-count (Some t) = 1

close-length : (close : Option Token) → length (close_tokens close) ≡ close-count close
close-length None = refl
close-length (Some t) = refl

room-pair : (close : Option Token) (t l n d : ℕ)
    → room_of t l (suc (n + close-count close)) (suc d)
    ≡ option_and_then (λ u. room_of u (l - 1) n d) (room_in close t l)
room-pair close t zero n d = room-over t 0 (suc (n + close-count close)) (suc d) (λ h k. omega (arith, k))
room-pair None zero (suc l) n d = room-over 0 (suc l) (suc (n + 0)) (suc d) (λ h k. omega (arith, h))
room-pair (Some c) zero (suc l) n d = room-over 0 (suc l) (suc (n + 1)) (suc d) (λ h k. omega (arith, h))
room-pair (Some c) (suc zero) (suc l) n d = room-over 1 (suc l) (suc (n + 1)) (suc d) (λ h k. omega (arith, h))
room-pair None (suc t) (suc l) n d = elim (within-or-over t n) [
  | inl a ↦ elim (within-or-over l d) [
    | inl b ↦
        room-within (suc t) (suc l) (suc (n + 0)) (suc d) (omega (arith, a)) (omega (arith, b))
        ∙ (ap Some (omega (arith, a)) ∙ sym (room-within t (suc l - 1) n d a (omega (arith, b))))
    | inr b ↦
        room-over (suc t) (suc l) (suc (n + 0)) (suc d) (λ h k. omega (arith, b, k))
        ∙ sym (room-over t (suc l - 1) n d (λ h k. omega (arith, b, k)))
  ]
  | inr a ↦
      room-over (suc t) (suc l) (suc (n + 0)) (suc d) (λ h k. omega (arith, a, h))
      ∙ sym (room-over t (suc l - 1) n d (λ h k. omega (arith, a, h)))
]
room-pair (Some c) (suc (suc t)) (suc l) n d = elim (within-or-over t n) [
  | inl a ↦ elim (within-or-over l d) [
    | inl b ↦
        room-within (suc (suc t)) (suc l) (suc (n + 1)) (suc d) (omega (arith, a)) (omega (arith, b))
        ∙ (ap Some (omega (arith, a)) ∙ sym (room-within t (suc l - 1) n d a (omega (arith, b))))
    | inr b ↦
        room-over (suc (suc t)) (suc l) (suc (n + 1)) (suc d) (λ h k. omega (arith, b, k))
        ∙ sym (room-over t (suc l - 1) n d (λ h k. omega (arith, b, k)))
  ]
  | inr a ↦
      room-over (suc (suc t)) (suc l) (suc (n + 1)) (suc d) (λ h k. omega (arith, a, h))
      ∙ sym (room-over t (suc l - 1) n d (λ h k. omega (arith, a, h)))
]

pair-length : (head : Token) (cs : Components) (close : Option Token)
    → length (head ∷ (all_tokens_of cs ++ close_tokens close)) ≡ suc (length (all_tokens_of cs) + close-count close)
pair-length head cs close =
    ap suc (length-append (all_tokens_of cs) (close_tokens close)
    ∙ ap (λ n. length (all_tokens_of cs) + n) (close-length close))

one-length : (ts : List Token) → length (ts ++ []) ≡ length ts
one-length ts = length-append ts [] ∙ omega arith

pub room_block : (t l : ℕ) (head : Token) (cs : Components) (close : Option Token)
    → room_after_one t l (simple_block head cs close) ≡ option_and_then (λ u. room_after u (l - 1) cs) (room_in close t l)
unfolding room_after
room_block t l head cs close =
    ap (λ n. room_of t l n (max (suc (depths cs)) 0)) (one-length (head ∷ (all_tokens_of cs ++ close_tokens close)) ∙ pair-length head cs close)
    ∙ (ap (λ d. room_of t l (suc (length (all_tokens_of cs) + close-count close)) d) (omega arith)
    ∙ room-pair close t l (length (all_tokens_of cs)) (depths cs))

pub room_function : (t l : ℕ) (head : Token) (cs : Components) (close : Option Token)
    → room_after_one t l (function_block head cs close) ≡ option_and_then (λ u. room_after u (l - 1) cs) (room_in close t l)
unfolding room_after
room_function t l head cs close = room_block t l head cs close

-- ---- brackets around what replaces their contents

and-map : {X Y Z : Type 0} (f : X → Y) (g : Y → Option Z) (o : Option X) → option_and_then g (option_map f o) ≡ option_and_then (λ x. g (f x)) o
and-map f g None = refl
and-map f g (Some x) = refl

pub room_around : (t l : ℕ) (head : Token) (close : Option Token) (o : Option Components)
    → option_and_then (room_after t l) (option_map (λ cs. one_component (simple_block head cs close)) o)
    ≡ option_and_then (λ u. option_and_then (room_after u (l - 1)) o) (room_in close t l)
room_around t l head close (Some cs) = room_block t l head cs close
room_around t l head close None = nothing (room_in close t l)
  where
    nothing : (r : Option ℕ) → None ≡ option_and_then (λ (u : ℕ). option_and_then (room_after u (l - 1)) None) r
    nothing None = refl
    nothing (Some u) = refl

pub room_around_function : (t l : ℕ) (head : Token) (close : Option Token) (o : Option Components)
    → option_and_then (room_after t l) (option_map (λ cs. one_component (function_block head cs close)) o)
    ≡ option_and_then (λ u. option_and_then (room_after u (l - 1)) o) (room_in close t l)
room_around_function t l head close (Some cs) = room_function t l head cs close
room_around_function t l head close None = nothing (room_in close t l)
  where
    nothing : (r : Option ℕ) → None ≡ option_and_then (λ (u : ℕ). option_and_then (room_after u (l - 1)) None) r
    nothing None = refl
    nothing (Some u) = refl

-- ---- the limits

-- there is room after what is within the limits, and after nothing else
pub within_room : (o : Option Components) (left : ℕ)
    → Some left ≡ option_and_then (room_after MAX_SUBSTITUTED_TOKENS MAX_NESTING) o
    → option_and_then (if_within MAX_SUBSTITUTED_TOKENS MAX_NESTING) o ≡ o
unfolding room_after
within_room None left h = refl
within_room (Some cs) left h = elim (cases_Bool (nat_le (length (all_tokens_of cs)) MAX_SUBSTITUTED_TOKENS && nat_le (depths cs) MAX_NESTING)) [
  | inl t ↦ rw t refl
  | inr f ↦ absurd (none-is-not left (sym (rw f at h)))
]
  where
    none-is-not : (v : ℕ) → None ≡ Some v → ⊥
    none-is-not v e = cc

pub over_room : (o : Option Components)
    → None ≡ option_and_then (room_after MAX_SUBSTITUTED_TOKENS MAX_NESTING) o
    → option_and_then (if_within MAX_SUBSTITUTED_TOKENS MAX_NESTING) o ≡ None
unfolding room_after
over_room None h = refl
over_room (Some cs) h = elim (cases_Bool (nat_le (length (all_tokens_of cs)) MAX_SUBSTITUTED_TOKENS && nat_le (depths cs) MAX_NESTING)) [
  | inl t ↦ absurd (none-is-not (MAX_SUBSTITUTED_TOKENS - length (all_tokens_of cs)) (rw t at h))
  | inr f ↦ rw f refl
]
  where
    none-is-not : (v : ℕ) → None ≡ Some v → ⊥
    none-is-not v e = cc
