-- A quoted text ends where it says, and tells its code points.
use Rattle.std.proofs.Common.{◌≡◌, ◌∙◌, refl, ap, ap₂, sym, ℕ, ◌<◌, ◌≤◌, ◌+◌, ◌*◌, ◌/◌, ◌%◌, ◌==◌, ◌≢◌, inl, inr, List, [], ◌∷◌, ◌++◌, append_assoc, map, get_or, drop, subst, if◌then◌else◌, arith, codes, nat_lt}
use Rattle.std.specs.Prelude.{encode_utf8, flat_map}
use Rattle.std.proofs.lemmas.Bool.{cases_Bool, eqb-true, eqb-false, ltb-true, ltb-false}
use Rattle.std.proofs.lemmas.Str.{encode_same, char_from_byte, digit_value-digit_char}
use Rattle.std.specs.Char.{digit_value}
use Rattle.page_model.specs.Trees.{Text}
use Rattle.reply_model.specs.Spelling.{field, hex_digit, in_quotes, quoted}
use Rattle.reply_model.specs.ValueTexts.{words_text}

-- ---- digits of base 16

pub value-hex : (n : ℕ) → n < 16 → digit_value (hex_digit n) ≡ n
value-hex n h = digit_value-digit_char n (omega arith)

-- the number of two digits of base 16
abbrev pub hex_value : ℕ → ℕ → ℕ
hex_value c d = digit_value c * 16 + digit_value d

pub value-hexes : (n : ℕ) → n < 256 → hex_value (hex_digit (n / 16)) (hex_digit (n % 16)) ≡ n
value-hexes n h =
    let high : digit_value (hex_digit (n / 16)) ≡ n / 16 = value-hex (n / 16) (omega arith) in
    let low : digit_value (hex_digit (n % 16)) ≡ n % 16 = value-hex (n % 16) (omega arith) in
    omega (arith, high, low)

-- ---- one code point

-- the code point whose escape has this letter behind the backslash, and what follows
abbrev escape_of : ℕ → List ℕ → ℕ × List ℕ
escape_of k r =
    if k == 34 then (34, r)
    else if k == 92 then (92, r)
    else (hex_value (get_or r 2 0) (get_or r 3 0), drop 4 r)

abbrev read_escape : List ℕ → ℕ × List ℕ
read_escape [] = (0, [])
read_escape (b ∷ []) = (0, [])
read_escape (b ∷ k ∷ r) = escape_of k r

-- a code point stands behind a backslash, and is read back
record IsEscaped (c : ℕ) : Type 0 where
  backslash : (r : List ℕ) → in_quotes c ++ r ≡ 92 ∷ drop 1 (in_quotes c ++ r)
  read : (r : List ℕ) → read_escape (in_quotes c ++ r) ≡ (c, r)

-- how a code point stands in quotes
data Spelt (c : ℕ) : Type 0 where
  escaped : IsEscaped c → Spelt c
  plain : c ≢ 34 → c ≢ 92 → 32 ≤ c → in_quotes c ≡ encode_utf8 c → Spelt c

by-number : (c : ℕ) → c < 32
    → in_quotes c ≡ codes "\\u00" ++ (hex_digit (c / 16) ∷ hex_digit (c % 16) ∷ []) → IsEscaped c
by-number c low e = record {
  backslash = λ r. rw e refl;
  read = λ r. rw e (ap (λ n. (n, r)) (value-hexes c (omega arith)));
}

spelt : (c : ℕ) → Spelt c
spelt c = elim (cases_Bool (c == 34)) [
  | inl q ↦ escaped (subst (λ n. IsEscaped n) (sym (eqb-true c 34 q))
      (record { backslash = λ r. refl; read = λ r. refl }))
  | inr nq ↦ elim (cases_Bool (c == 92)) [
    | inl b ↦ escaped (subst (λ n. IsEscaped n) (sym (eqb-true c 92 b))
        (record { backslash = λ r. refl; read = λ r. refl }))
    | inr nb ↦ elim (cases_Bool (nat_lt c 32)) [
      | inl l ↦ escaped (by-number c (ltb-true c 32 l) (rw (nq, nb, l) refl))
      | inr nl ↦ plain (eqb-false c 34 nq) (eqb-false c 92 nb) (ltb-false c 32 nl) (rw (nq, nb, nl) refl)
    ]
  ]
]

-- UTF-8 begins with an ASCII byte only at the code point of that byte
not-encoded : (c b : ℕ) (r t : List ℕ) → b < 128 → c ≢ b → encode_utf8 c ++ r ≢ b ∷ t
not-encoded c b r t low other e = other (char_from_byte (b ∷ t) r c (sym e) low (omega arith))

not-escaped : (c d : ℕ) (r t : List ℕ) → c ≢ 92 → in_quotes c ≡ encode_utf8 c → IsEscaped d
    → in_quotes c ++ r ≢ in_quotes d ++ t
not-escaped c d r t other same e h = not-encoded c 92 r (drop 1 (in_quotes d ++ t)) (omega arith) other
    (ap (λ xs. xs ++ r) (sym same) ∙ (h ∙ e.backslash t))

same-point-of : (c d : ℕ) (r t : List ℕ) → Spelt c → Spelt d → in_quotes c ++ r ≡ in_quotes d ++ t
    → (c ≡ d) × (r ≡ t)
same-point-of c d r t (escaped e) (escaped f) h =
    let both : (c, r) ≡ (d, t) = sym (e.read r) ∙ (ap read_escape h ∙ f.read t) in
    (ap (λ x. x.0) both, ap (λ x. x.1) both)
same-point-of c d r t (plain a b l e) (plain a' b' l' e') h =
    encode_same c d r t (ap (λ xs. xs ++ r) (sym e) ∙ (h ∙ ap (λ xs. xs ++ t) e'))
same-point-of c d r t (escaped e) (plain a b l f) h = absurd (not-escaped d c t r b f e (sym h))
same-point-of c d r t (plain a b l e) (escaped f) h = absurd (not-escaped c d r t b e f h)

same-point : (c d : ℕ) (r t : List ℕ) → in_quotes c ++ r ≡ in_quotes d ++ t → (c ≡ d) × (r ≡ t)
same-point c d r t h = same-point-of c d r t (spelt c) (spelt d) h

not-quote-of : (c : ℕ) (r t : List ℕ) → Spelt c → in_quotes c ++ r ≢ 34 ∷ t
not-quote-of c r t (escaped e) h =
    let first : ◌≡◌ {A = ℕ} 92 34 = ap (λ xs. get_or xs 0 0) (sym (e.backslash r) ∙ h) in
    absurd (omega arith)
not-quote-of c r t (plain a b l e) h =
    not-encoded c 34 r t (omega arith) a (ap (λ xs. xs ++ r) (sym e) ∙ h)

not-quote : (c : ℕ) (r t : List ℕ) → in_quotes c ++ r ≢ 34 ∷ t
not-quote c r t = not-quote-of c r t (spelt c)

-- ---- a text

same-points : (s t r q : List ℕ) → flat_map in_quotes s ++ 34 ∷ r ≡ flat_map in_quotes t ++ 34 ∷ q
    → (s ≡ t) × (r ≡ q)
same-points [] [] r q h = (refl, cc)
same-points [] (d ∷ t) r q h = absurd (not-quote d (flat_map in_quotes t ++ 34 ∷ q) r
    (sym (h ∙ append_assoc (in_quotes d) (flat_map in_quotes t) (34 ∷ q))))
same-points (c ∷ s) [] r q h = absurd (not-quote c (flat_map in_quotes s ++ 34 ∷ r) q
    (sym (append_assoc (in_quotes c) (flat_map in_quotes s) (34 ∷ r)) ∙ h))
same-points (c ∷ s) (d ∷ t) r q h =
    let first = same-point c d (flat_map in_quotes s ++ 34 ∷ r) (flat_map in_quotes t ++ 34 ∷ q)
    (sym (append_assoc (in_quotes c) (flat_map in_quotes s) (34 ∷ r))
    ∙ (h ∙ append_assoc (in_quotes d) (flat_map in_quotes t) (34 ∷ q))) in
    let rest = same-points s t r q first.1 in
    (ap₂ (λ x xs. x ∷ xs) first.0 rest.0, rest.1)

pub same-quoted : (s t : Text) (r q : List ℕ) → quoted s ++ r ≡ quoted t ++ q → (s ≡ t) × (r ≡ q)
unfolding quoted
same-quoted s t r q h =
    let inner : flat_map in_quotes s ++ 34 ∷ r ≡ flat_map in_quotes t ++ 34 ∷ q =
    sym (append_assoc (flat_map in_quotes s) (34 ∷ []) r)
    ∙ (ap (λ xs. drop 1 xs) h ∙ append_assoc (flat_map in_quotes t) (34 ∷ []) q) in
    same-points s t r q inner

pub first-quoted : (s : Text) (r : List ℕ) → get_or (quoted s ++ r) 0 0 ≡ 34
unfolding quoted
first-quoted s r = refl

-- ---- names

same-fields : (ns ms : List Text)
    → flat_map field (map quoted ns) ≡ flat_map field (map quoted ms) → ns ≡ ms
same-fields [] [] h = refl
same-fields [] (m ∷ ms) h = cc
same-fields (n ∷ ns) [] h = cc
same-fields (n ∷ ns) (m ∷ ms) h =
    let first = same-quoted n m (flat_map field (map quoted ns)) (flat_map field (map quoted ms))
    (ap (λ xs. drop 1 xs) h) in
    ap₂ (λ x xs. x ∷ xs) first.0 (same-fields ns ms first.1)

-- names of which one list is empty
not-none : (n : Text) (ns : List Text) → words_text (map quoted (n ∷ ns)) ≢ codes "none"
not-none n ns h =
    absurd (omega (arith, first-quoted n (flat_map field (map quoted ns)), ap (λ xs. get_or xs 0 0) h))

pub same-names : (ns ms : List Text)
    → words_text (map quoted ns) ≡ words_text (map quoted ms) → ns ≡ ms
same-names [] [] h = refl
same-names [] (m ∷ ms) h = absurd (not-none m ms (sym h))
same-names (n ∷ ns) [] h = absurd (not-none n ns h)
same-names (n ∷ ns) (m ∷ ms) h =
    let first = same-quoted n m (flat_map field (map quoted ns)) (flat_map field (map quoted ms)) h in
    ap₂ (λ x xs. x ∷ xs) first.0 (same-fields ns ms first.1)
