-- How a reply grows by its parts.
use Rattle.std.proofs.Common.{◌≡◌, ◌∙◌, ap, ℕ, List, ◌++◌, cond, Result, Ok, Err, OnOk, is_ok, append_assoc}

-- what was appended last
pub OnOk-appended : {T E : Type 0} (r : Result T E) (new old last all : List ℕ) → new ≡ cond (is_ok r) (old ++ last) old → old ++ last ≡ all → OnOk r (new ≡ all)
OnOk-appended (Ok x) new old last all e f = e ∙ f
OnOk-appended (Err x) new old last all e f = tt

-- b was appended after a
pub OnOk-after : {T E : Type 0} (r : Result T E) (new mid old a b all : List ℕ) → OnOk r (new ≡ mid ++ b) → mid ≡ old ++ a → a ++ b ≡ all → OnOk r (new ≡ old ++ all)
OnOk-after (Ok x) new mid old a b all h e f = h ∙ (ap (λ m. m ++ b) e ∙ (append_assoc old a b ∙ ap (λ z. old ++ z) f))
OnOk-after (Err x) new mid old a b all h e f = tt

-- parts that were appended one after another, two of them at a time
pub parts-joined : (old m1 m2 m3 m4 head id tag x y w h cw ch last : List ℕ)
    → m1 ≡ old ++ (head ++ (id ++ tag)) → m2 ≡ m1 ++ (x ++ y) → m3 ≡ m2 ++ (w ++ h) → m4 ≡ m3 ++ (cw ++ ch)
    → m4 ++ last ≡ old ++ (head ++ (id ++ (tag ++ (x ++ (y ++ (w ++ (h ++ (cw ++ (ch ++ last)))))))))
parts-joined old m1 m2 m3 m4 head id tag x y w h cw ch last e1 e2 e3 e4 = rw (e4, e3, e2, e1) (simp append_assoc)
