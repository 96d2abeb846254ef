-- The run of code points of one class in front of a text.
use Rattle.std.proofs.Common.{◌≡◌, ap, refl, ℕ, ◌≤◌, [], ◌∷◌, ◌++◌, length, drop, Bool, true, false, arith, inl, inr}
use Rattle.std.proofs.lemmas.Bool.{cases_Bool}
use Rattle.std.specs.List.{list_all}
use Rattle.css_model.specs.Classes.{Text, begins}
use Rattle.css_model.specs.inner.Fronts.{run_in}
use Rattle.css_model.proofs.Tests.{and-left, and-right}

-- a run that ends is the run in front
pub run_in-is : (test : ℕ → Bool) (s rest : Text) → list_all test s ≡ true → begins test rest ≡ false
    → run_in test (s ++ rest) ≡ s
run_in-is test [] [] a b = refl
run_in-is test [] (c ∷ cs) a b = rw b refl
run_in-is test (d ∷ s) rest a b =
    let here : test d ≡ true = and-left (test d) (list_all test s) a in
    let more : run_in test (s ++ rest) ≡ s =
    run_in-is test s rest (and-right (test d) (list_all test s) a) b in
    rw here (ap (λ cs. d ∷ cs) more)

-- a run is no longer than the run in front
pub run_in-longest : (test : ℕ → Bool) (s rest : Text) → list_all test s ≡ true
    → length s ≤ length (run_in test (s ++ rest))
run_in-longest test [] rest a = omega arith
run_in-longest test (d ∷ s) rest a =
    let here : test d ≡ true = and-left (test d) (list_all test s) a in
    let more : length s ≤ length (run_in test (s ++ rest)) =
    run_in-longest test s rest (and-right (test d) (list_all test s) a) in
    rw here (omega (arith, more))

-- the run and what is after it
pub record Runs (test : ℕ → Bool) (cs : Text) : Type 0 where
  pub joins : run_in test cs ++ drop (length (run_in test cs)) cs ≡ cs
  pub passes : list_all test (run_in test cs) ≡ true
  pub ends : begins test (drop (length (run_in test cs)) cs) ≡ false

pub runs : (test : ℕ → Bool) (cs : Text) → Runs test cs
runs test [] = record { joins = refl; passes = refl; ends = refl }
runs test (c ∷ cs) =
    let more : Runs test cs = runs test cs in
    elim (cases_Bool (test c)) [
      | inl t ↦ record {
        joins = rw t (ap (λ xs. c ∷ xs) more.joins);
        passes = rw t (rw t more.passes);
        ends = rw t more.ends;
      }
      | inr f ↦ record { joins = rw f refl; passes = rw f refl; ends = rw f f }
    ]
