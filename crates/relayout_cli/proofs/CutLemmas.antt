-- Lines with their newlines in front of a stream.
use Rattle.std.proofs.Common.{◌≡◌, ◌∙◌, sym, ap, refl, ℕ, List, [], ◌∷◌, ◌++◌, append_assoc, append-nil}
use Rattle.stream_model.specs.Lines.{newline, lines, onto, whole_lines, onto_first, IsUnbroken}

whole_lines-newline : (line rest : List ℕ) → IsUnbroken line → whole_lines (line ++ newline ∷ rest) ≡ line ∷ whole_lines rest
whole_lines-newline [] rest u = refl
whole_lines-newline (b ∷ bytes) rest u = rw u.0 (ap (onto_first b) (whole_lines-newline bytes rest u.1))

-- no line ends in what is unbroken
pub whole_lines-unbroken : (part : List ℕ) → IsUnbroken part → whole_lines part ≡ []
whole_lines-unbroken [] u = refl
whole_lines-unbroken (b ∷ bytes) u = rw u.0 (ap (onto_first b) (whole_lines-unbroken bytes u.1))

lines-newline : (line rest : List ℕ) → IsUnbroken line → lines (line ++ newline ∷ rest) ≡ line ∷ lines rest
lines-newline [] rest u = refl
lines-newline (b ∷ bytes) rest u = rw u.0 (ap (onto b) (lines-newline bytes rest u.1))

-- these bytes are just these lines, each with its newline, whatever stands after them
abbrev pub AreWhole : List ℕ → List (List ℕ) → Type 0
AreWhole before done =
    (more : List ℕ) → (whole_lines (before ++ more) ≡ done ++ whole_lines more) × (lines (before ++ more) ≡ done ++ lines more)

pub AreWhole-none : AreWhole [] []
AreWhole-none more = (refl, refl)

before-line : (before line more : List ℕ) → (before ++ (line ++ newline ∷ [])) ++ more ≡ before ++ (line ++ newline ∷ more)
before-line before line more = append_assoc before (line ++ newline ∷ []) more ∙ ap (λ (x : List ℕ). before ++ x) (append_assoc line (newline ∷ []) more)

-- one more line with its newline
pub AreWhole-more : (before line : List ℕ) (done : List (List ℕ)) → AreWhole before done → IsUnbroken line → AreWhole (before ++ (line ++ newline ∷ [])) (done ++ line ∷ [])
AreWhole-more before line done w u more = (
  ap whole_lines (before-line before line more)
      ∙ ((w (line ++ newline ∷ more)).0
      ∙ (ap (λ (ls : List (List ℕ)). done ++ ls) (whole_lines-newline line more u) ∙ sym (append_assoc done (line ∷ []) (whole_lines more)))),
  ap lines (before-line before line more)
      ∙ ((w (line ++ newline ∷ more)).1
      ∙ (ap (λ (ls : List (List ℕ)). done ++ ls) (lines-newline line more u) ∙ sym (append_assoc done (line ∷ []) (lines more)))),
)

-- after whole lines an unbroken part adds none
pub AreWhole-part : (before part : List ℕ) (done : List (List ℕ)) → AreWhole before done → IsUnbroken part → whole_lines (before ++ part) ≡ done
AreWhole-part before part done w u = (w part).0 ∙ (ap (λ (ls : List (List ℕ)). done ++ ls) (whole_lines-unbroken part u) ∙ append-nil done)
