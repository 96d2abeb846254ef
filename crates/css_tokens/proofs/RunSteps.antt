-- The run of characters of one class in front of a text.
use Rattle.std.proofs.Math.Seq.{take-append_seam}
use Rattle.std.proofs.Common.{◌≡◌, ◌∙◌, sym, ap, ℕ, [], ◌∷◌, length, take, drop, Bool, refl, inl, inr, arith}
use Rattle.std.specs.List.{prefix_len}
use Rattle.std.proofs.lemmas.Bool.{cases_Bool}
use Rattle.css_model.specs.Classes.{Text}
use Rattle.css_model.specs.inner.Fronts.{run_in, one_in}
use Rattle.css_model.proofs.Runs.{runs}
use Rattle.css_model.proofs.PartLemmas.{one_in-joins}

-- a run has as many characters as pass its test
pub run-length : (test : ℕ → Bool) (cs : Text) → prefix_len test cs ≡ length (run_in test cs)
run-length test [] = refl
run-length test (c ∷ cs) = elim (cases_Bool (test c)) [
  | inl t ↦ rw t (omega (arith, run-length test cs))
  | inr f ↦ rw f refl
]

-- a run is the front of its length
pub run-take : (test : ℕ → Bool) (cs : Text) → take (length (run_in test cs)) cs ≡ run_in test cs
run-take test cs = ap (take (length (run_in test cs))) (sym (runs test cs).joins) ∙ take-append_seam (run_in test cs) (drop (length (run_in test cs)) cs)

pub one-take : (test : ℕ → Bool) (cs : Text) → take (length (one_in test cs)) cs ≡ one_in test cs
one-take test cs = ap (take (length (one_in test cs))) (sym (one_in-joins test cs)) ∙ take-append_seam (one_in test cs) (drop (length (one_in test cs)) cs)
