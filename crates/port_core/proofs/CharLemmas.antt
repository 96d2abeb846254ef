-- A character that is appended to UTF-8.
use Rattle.std.proofs.Common.{◌≡◌, ◌∙◌, sym, ap, refl, ℕ, List, [], ◌∷◌, ◌++◌, true, append-nil}
use Rattle.std.specs.Prelude.{Result, Ok, Err, OnOk, is_ok, encode_utf8, if◌then◌else◌}
use Rattle.std.specs.Str.{chars, IsUtf8}
use Rattle.std.proofs.Math.Utf8.{scalar}
use Rattle.std.proofs.lemmas.Str.{chars-append, chars-encodes}

-- a character more in UTF-8 is a character more
chars-more : (bs : List ℕ) (c : ℕ) → IsUtf8 bs → scalar c ≡ true
    → chars (bs ++ encode_utf8 c) ≡ chars bs ++ c ∷ []
chars-more bs c u s =
    chars-append bs (encode_utf8 c) u
    ∙ ap (λ cs. chars bs ++ cs) (ap chars (sym (append-nil (encode_utf8 c))) ∙ chars-encodes (c ∷ []) (rw s refl))

-- the same of a push that may fail
pub push-more : {X E : Type 0} (r : Result X E) (old new : List ℕ) (c : ℕ) → IsUtf8 old
    → scalar c ≡ true
    → new ≡ (if is_ok r then old ++ encode_utf8 c else old) → OnOk r (chars new ≡ chars old ++ c ∷ [])
push-more (Ok x) old new c u s e = ap chars e ∙ chars-more old c u s
push-more (Err x) old new c u s e = tt
