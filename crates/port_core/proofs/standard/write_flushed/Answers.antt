use Rattle.std.proofs.Common.{ℕ, ◌+◌, List, ◌++◌, take, drop, Option, Some, None, ap, ◌∙◌, append_assoc, arith}
use Rattle.std.proofs.Math.Seq.{take-add}
use Rattle.std.proofs.lemmas.List.{take_rest}
use Rattle.std.specs.Io.KnownBytes.{Appends}
use Rattle.port_core.proofs.standard.write_flushed.Goals as goal

-- the first bytes, and then the next ones
Appends-more : (a b c : Option (List ℕ)) (bytes : List ℕ) (done count : ℕ)
    → Appends a b (take done bytes) → Appends b c (take count (drop done bytes))
    → Appends a c (take (done + count) bytes)
Appends-more None b c bytes done count r s = tt
Appends-more (Some x) None c bytes done count r s = absurd r
Appends-more (Some x) (Some y) None bytes done count r s = absurd s
Appends-more (Some x) (Some y) (Some z) bytes done count r s =
    rw take-add (s ∙ (ap (λ w. w ++ take count (drop done bytes)) r ∙ append_assoc x (take done bytes) (take count (drop done bytes))))

pub loop-done-preserved : goal.loop-done-preserved
loop-done-preserved g c = record {
  within = omega (arith, c.in-Ok.ensures.bound);
  written = Appends-more _ _ _ _ _ _ c.loop-done.invariant.written (rw take_rest at c.in-Ok.ensures.bytes);
}
