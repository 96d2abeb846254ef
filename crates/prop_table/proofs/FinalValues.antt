-- Computed values that are equal.
use Rattle.std.proofs.Common.{◌≡◌, ◌∙◌, ap, refl, sym, subst, Bool, true, ◌&&◌}
use Rattle.std.specs.Prelude.{◌↔◌, IsTrue}
use Rattle.std.specs.Cmp.{booleans_Decides}
use Rattle.std.proofs.Math.Bool.{beq}
use Rattle.css_model.proofs.Tests.{and-left, and-right}
use Rattle.value_model.specs.declared.containment.Containment.{Containment}
use Rattle.value_model.specs.Forms.{nothing_contained}
use Rattle.value_model.specs.Values.{Final, containment}

abbrev contained_by : Final → Containment
contained_by (containment c) = c
contained_by other = nothing_contained

beq-same : (x y : Bool) → beq x y ≡ true → x ≡ y
beq-same x y e = (booleans_Decides x y).0 e

beq-refl : (x : Bool) → beq x x ≡ true
beq-refl x = (booleans_Decides x x).1 refl

-- a test of each part
abbrev same_parts : Containment → Containment → Bool
same_parts a b = beq a.size b.size
    && (beq a.inline_size b.inline_size && (beq a.layout b.layout && (beq a.style b.style && beq a.paint b.paint)))

all_beq : (v w x y z : Bool) → v ≡ true → w ≡ true → x ≡ true → y ≡ true → z ≡ true → (v && (w && (x && (y && z)))) ≡ true
all_beq v w x y z a b c d e = rw (a, b, c, d, e) refl

parts-refl : (a : Containment) → same_parts a a ≡ true
parts-refl a =
    all_beq _ _ _ _ _ (beq-refl a.size) (beq-refl a.inline_size) (beq-refl a.layout) (beq-refl a.style) (beq-refl a.paint)

parts-same : (a b : Containment) → same_parts a b ≡ true → a ≡ b
parts-same a b e =
    let e2 = and-right (beq a.size b.size) _ e in
    let e3 = and-right (beq a.inline_size b.inline_size) _ e2 in
    let e4 = and-right (beq a.layout b.layout) _ e3 in
    let size = beq-same a.size b.size (and-left _ _ e) in
    let inline_size = beq-same a.inline_size b.inline_size (and-left _ _ e2) in
    let layout = beq-same a.layout b.layout (and-left _ _ e3) in
    let style = beq-same a.style b.style (and-left _ _ e4) in
    let paint = beq-same a.paint b.paint (and-right (beq a.style b.style) _ e4) in
    λ j. record { size = size j; inline_size = inline_size j; layout = layout j; style = style j; paint = paint j }

-- containments are equal where each part is
pub containment-same : (result : Bool) (a b : Containment) → result ≡ same_parts a b
    → IsTrue result ↔ (containment a ≡ containment b)
containment-same result a b e = (
  λ t. ap containment (parts-same a b (sym e ∙ t)),
  λ same. e ∙ subst (λ (c : Containment). same_parts a c ≡ true) (ap contained_by same) (parts-refl a),
)
