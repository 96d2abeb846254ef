-- The first elements of a list, one more at a time.
use Rattle.std.proofs.Common.{◌≡◌, ◌∙◌, ◌-◌, ap, refl, sym, ℕ, zero, suc, ◌<◌, ◌≤◌, List, [], ◌∷◌, ◌++◌, length, take, drop, get_or, arith}
use Rattle.std.proofs.Math.Seq.{take-length}
use Rattle.std.proofs.lemmas.List.{length-drop}
use Rattle.css_tokens.specs.declared.component.Component.{Component}

pub take-next : (cs : List Component) (at : ℕ) (c : Component) → at < length cs → c ≡ get_or cs at c
    → take (suc at) cs ≡ take at cs ++ c ∷ []
take-next [] at c h is = absurd (omega (arith, h))
take-next (d ∷ cs) zero c h is = ap (λ x. x ∷ []) (sym is)
take-next (d ∷ cs) (suc at) c h is = ap (λ xs. d ∷ xs) (take-next cs at c (omega (arith, h)) is)

pub drop-next : (cs : List Component) (at : ℕ) (c : Component) → at < length cs → c ≡ get_or cs at c
    → drop at cs ≡ c ∷ drop (suc at) cs
drop-next [] at c h is = absurd (omega (arith, h))
drop-next (d ∷ cs) zero c h is = ap (λ x. x ∷ cs) (sym is)
drop-next (d ∷ cs) (suc at) c h is = drop-next cs at c (omega (arith, h)) is

pub take-all : (cs : List Component) (at : ℕ) → length cs ≤ at → take at cs ≡ cs
take-all [] zero h = refl
take-all [] (suc at) h = refl
take-all (c ∷ cs) zero h = absurd (omega (arith, h))
take-all (c ∷ cs) (suc at) h = ap (λ ds. c ∷ ds) (take-all cs at (omega (arith, h)))

pub drop-all : (cs : List Component) (at : ℕ) → length cs ≤ at → drop at cs ≡ []
drop-all [] zero h = refl
drop-all [] (suc at) h = refl
drop-all (c ∷ cs) zero h = absurd (omega (arith, h))
drop-all (c ∷ cs) (suc at) h = drop-all cs at (omega (arith, h))

pub take-rest : (cs : List Component) (at : ℕ) → take (length cs - at) (drop at cs) ≡ drop at cs
take-rest cs at = ap (λ n. take n (drop at cs)) (sym (length-drop at cs)) ∙ take-length (drop at cs)
