-- Texts in UTF-8: a part of the bytes that is a text is a part of the characters.
use Rattle.std.proofs.Common.{get_or, suc, ◌≡◌, ◌∙◌, ap, sym, subst, refl, arith, ℕ, ◌+◌, ◌≤◌, length, take, drop, append_assoc, List, [], ◌∷◌, ◌++◌, length-append, Bool, true, false, encode_utf8, encode_utf8_all}
use Rattle.std.proofs.lemmas.Str.{IsCharBoundary-from_drop, IsUtf8-past_char, IsCharBoundary-start, IsUtf8-take, chars-append, encodes-append, encodes-chars}
use Rattle.std.proofs.Math.Seq.{drop-append_seam, take-append_seam}
use Rattle.std.proofs.lemmas.List.{get_or-append-add}
use Rattle.std.specs.Str.{IsCharBoundary, IsUtf8, chars}

pub same-bool : (a b : Bool) → (a ≡ true → b ≡ true) → (b ≡ true → a ≡ true) → a ≡ b
same-bool true b f g = sym (f refl)
same-bool false true f g = g refl
same-bool false false f g = refl

pub chars-injective : (bs cs : List ℕ) → IsUtf8 bs → IsUtf8 cs → chars bs ≡ chars cs → bs ≡ cs
chars-injective bs cs u v e = sym (encodes-chars bs u) ∙ (ap encode_utf8_all e ∙ encodes-chars cs v)

-- ---- parts of a text

utf8-past : (cs rest : List ℕ) → IsUtf8 (encode_utf8_all cs ++ rest) → IsUtf8 rest
utf8-past [] rest u = u
utf8-past (c ∷ cs) rest u =
    utf8-past cs rest (IsUtf8-past_char ((encode_utf8 c ++ encode_utf8_all cs) ++ rest) (encode_utf8_all cs ++ rest) c u (append_assoc (encode_utf8 c) (encode_utf8_all cs) rest))

-- what is after a text in a text is one
pub utf8-after : (bs ns rest : List ℕ) → IsUtf8 bs → IsUtf8 ns → bs ≡ ns ++ rest → IsUtf8 rest
utf8-after bs ns rest u v e = utf8-past (chars ns) rest (subst IsUtf8 (e ∙ ap (λ cs. cs ++ rest) (sym (encodes-chars ns v))) u)

-- what is before a boundary is one
pub utf8-before : (bs front rest : List ℕ) → IsUtf8 bs → bs ≡ front ++ rest → IsCharBoundary bs (length front) → IsUtf8 front
utf8-before bs front rest u e b =
    subst IsUtf8 (ap (take (length front)) e ∙ take-append_seam front rest) (IsUtf8-take bs (length front) u b)

pub chars-after : (bs ns rest : List ℕ) → IsUtf8 ns → bs ≡ ns ++ rest → chars bs ≡ chars ns ++ chars rest
chars-after bs ns rest v e = ap chars e ∙ chars-append ns rest v

-- the bytes of a text whose characters begin so
pub bytes-before : (bs ns zs : List ℕ) → IsUtf8 bs → IsUtf8 ns → chars bs ≡ chars ns ++ zs → bs ≡ ns ++ encode_utf8_all zs
bytes-before bs ns zs u v e =
    sym (encodes-chars bs u) ∙ (ap encode_utf8_all e ∙ (encodes-append (chars ns) zs ∙ ap (λ cs. cs ++ encode_utf8_all zs) (encodes-chars ns v)))

pub bytes-behind : (bs ns zs : List ℕ) → IsUtf8 bs → IsUtf8 ns → chars bs ≡ zs ++ chars ns → bs ≡ encode_utf8_all zs ++ ns
bytes-behind bs ns zs u v e =
    sym (encodes-chars bs u) ∙ (ap encode_utf8_all e ∙ (encodes-append zs (chars ns) ∙ ap (λ cs. encode_utf8_all zs ++ cs) (encodes-chars ns v)))

-- what is before a text at the end of a text is one
pub utf8-front : (bs front ns : List ℕ) → IsUtf8 bs → IsUtf8 ns → bs ≡ front ++ ns → IsUtf8 front
utf8-front bs front ns u v e =
    let back : drop (length front) bs ≡ ns = ap (drop (length front)) e ∙ drop-append_seam front ns in
    let long : length bs ≡ length front + length ns = ap length e ∙ length-append front ns in
    utf8-before bs front ns u e (IsCharBoundary-from_drop bs (length front) (omega (arith, long)) (subst IsUtf8 (sym back) v))

-- what is before a text inside a text is one
pub utf8-around : (bs front : List ℕ) (n : ℕ) (ns rest : List ℕ) → IsUtf8 bs → IsUtf8 (n ∷ ns) → bs ≡ front ++ ((n ∷ ns) ++ rest) → IsUtf8 front
utf8-around bs front n ns rest u v e =
    let long : length bs ≡ length front + suc (length (ns ++ rest)) = ap length e ∙ length-append front (n ∷ (ns ++ rest)) in
    let here : get_or bs (length front) 0 ≡ n =
    ap (λ i. get_or bs i 0) (omega arith) ∙ (ap (λ cs. get_or cs (length front + 0) 0) e ∙ get_or-append-add front (n ∷ (ns ++ rest)) 0 0) in
    let start = IsCharBoundary-start (n ∷ ns) v in
    utf8-before bs front ((n ∷ ns) ++ rest) u e
    (omega (arith, long), λ _ high. subst (λ b. 192 ≤ b) (sym here) (start.1 (omega arith) (subst (λ b. 128 ≤ b) here high)))
