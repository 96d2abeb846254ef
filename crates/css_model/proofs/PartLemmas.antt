-- The parts in front of a text are those of the definition.
use Rattle.std.proofs.Common.{◌≡◌, ◌⊎◌, ◌∙◌, sym, ap, refl, subst, ℕ, zero, suc, pred, ◌≤◌, ◌==◌, List, [], ◌∷◌, ◌++◌, length, drop, Bool, true, false, ◌||◌, not, arith, inl, inr, append_assoc, eqb-true, length-drop}
use Rattle.std.proofs.lemmas.Bool.{cases_Bool, false≢true, eq-eqb}
use Rattle.std.proofs.Math.Seq.{drop-append_seam}
use Rattle.std.specs.List.{list_all}
use Rattle.css_model.specs.declared.place.Place.{Place}
use Rattle.css_model.specs.Classes.{Text, backslash, is_hex_digit, is_newline, is_whitespace, begins, is_empty, is_at_most_one}
use Rattle.css_model.specs.Parts.{Part, itself, escaped, hex_escape, escaped_newline, escape_at_end, part_text, parts_text, is_hex_escape_over, IsPart, AreParts, may_stand}
use Rattle.css_model.specs.inner.Fronts.{one_in, hex_digits_in, hex_escape_in, escape_in, part_in, parts_after, parts_in, after_parts}
use Rattle.css_model.proofs.Tests.{and-left, and-right, or-cases, not-true, not-false, both, or-left, or-right, pick-true, pick-false}
use Rattle.std.specs.Prelude.{if◌then◌else◌}

-- ---- one part

-- the part that a text begins with
abbrev pub part_of : Text → Part
part_of [] = escape_at_end
part_of (c ∷ cs) = part_in c cs

-- hex digits that are as many as may be, or that end, are those in front
hex_digits_in-is : (n : ℕ) (digits tail : Text) → list_all is_hex_digit digits ≡ true → length digits ≤ n
    → (length digits ≡ n) ⊎ (begins is_hex_digit tail ≡ false) → hex_digits_in n (digits ++ tail) ≡ digits
hex_digits_in-is zero [] tail a l e = refl
hex_digits_in-is zero (d ∷ ds) tail a l e = absurd (omega (arith, l))
hex_digits_in-is (suc n) [] [] a l e = refl
hex_digits_in-is (suc n) [] (c ∷ cs) a l (inl full) = absurd (omega (arith, full))
hex_digits_in-is (suc n) [] (c ∷ cs) a l (inr ends) = rw ends refl
hex_digits_in-is (suc n) (d ∷ ds) tail a l e =
    let here : is_hex_digit d ≡ true = and-left (is_hex_digit d) (list_all is_hex_digit ds) a in
    let over : (length ds ≡ n) ⊎ (begins is_hex_digit tail ≡ false) =
    elim e [ inl full ↦ inl (omega (arith, full)) | inr ends ↦ inr ends ] in
    rw here (ap (λ cs. d ∷ cs)
    (hex_digits_in-is n ds tail (and-right (is_hex_digit d) (list_all is_hex_digit ds) a)
    (omega (arith, l)) over))

hex-no_newline : (d : ℕ) → is_hex_digit d ≡ true → is_newline d ≡ false
hex-no_newline d h =
    elim (cases_Bool (is_newline d)) [
      | inl t ↦
          absurd (false≢true (subst (λ x. is_hex_digit x ≡ true) (eqb-true d 10 t) h))
      | inr f ↦ f
    ]

white-no_hex : (c : ℕ) → is_whitespace c ≡ true → is_hex_digit c ≡ false
white-no_hex c h = elim (or-cases (is_newline c) ((c == 9) || (c == 32)) h) [
  | inl t ↦ subst (λ x. is_hex_digit x ≡ false) (sym (eqb-true c 10 t)) refl
  | inr t ↦ elim (or-cases (c == 9) (c == 32) t) [
    | inl u ↦ subst (λ x. is_hex_digit x ≡ false) (sym (eqb-true c 9 u)) refl
    | inr u ↦ subst (λ x. is_hex_digit x ≡ false) (sym (eqb-true c 32 u)) refl
  ]
]

pub one_in-none : (test : ℕ → Bool) (cs : Text) → begins test cs ≡ false → one_in test cs ≡ []
one_in-none test [] f = refl
one_in-none test (c ∷ cs) f = rw f refl

-- the whitespace after a hex escape
blank-is : (digits blank behind : Text) → is_at_most_one is_whitespace blank ≡ true
    → is_hex_escape_over digits blank behind ≡ true → one_in is_whitespace (blank ++ behind) ≡ blank
blank-is digits [] behind b o =
    one_in-none is_whitespace behind
    (not-true (begins is_whitespace behind)
    (and-left (not (begins is_whitespace behind))
    ((length digits == 6) || not (begins is_hex_digit behind)) o))
blank-is digits (c ∷ []) behind b o = rw (and-left (is_whitespace c) true b) refl
blank-is digits (c ∷ d ∷ ds) behind b o = absurd (false≢true (and-right (is_whitespace c) false b))

-- the digits of a code end
digits-over : (digits blank behind : Text) → is_at_most_one is_whitespace blank ≡ true
    → is_hex_escape_over digits blank behind ≡ true
    → (length digits ≡ 6) ⊎ (begins is_hex_digit (blank ++ behind) ≡ false)
digits-over digits [] behind b o =
    elim (or-cases (length digits == 6) (not (begins is_hex_digit behind))
    (and-right (not (begins is_whitespace behind))
    ((length digits == 6) || not (begins is_hex_digit behind)) o)) [
      | inl full ↦ inl (eqb-true (length digits) 6 full)
      | inr ends ↦ inr (not-true (begins is_hex_digit behind) ends)
    ]
digits-over digits (c ∷ cs) behind b o = inr (white-no_hex c (and-left (is_whitespace c) (is_empty cs) b))

hex_escape_in-is : (digits blank behind : Text) → IsPart (hex_escape digits blank) behind
    → hex_escape_in (digits ++ (blank ++ behind)) ≡ hex_escape digits blank
hex_escape_in-is digits blank behind h =
    let cs : Text = digits ++ (blank ++ behind) in
    let front : hex_digits_in 6 cs ≡ digits =
    hex_digits_in-is 6 digits (blank ++ behind) h.are_digits h.few
    (digits-over digits blank behind h.is_blank h.over) in
    let rest : drop (length (hex_digits_in 6 cs)) cs ≡ blank ++ behind =
    ap (λ ds. drop (length ds) cs) front ∙ drop-append_seam digits (blank ++ behind) in
    let white : one_in is_whitespace (drop (length (hex_digits_in 6 cs)) cs) ≡ blank =
    ap (one_in is_whitespace) rest ∙ blank-is digits blank behind h.is_blank h.over in
    ap (λ ds. hex_escape ds (one_in is_whitespace (drop (length (hex_digits_in 6 cs)) cs))) front
    ∙ ap (hex_escape digits) white

escape_in-code : (d : ℕ) (cs : Text) → is_hex_digit d ≡ true → escape_in (d ∷ cs) ≡ hex_escape_in (d ∷ cs)
escape_in-code d cs h =
    pick-false (is_newline d) escaped_newline (if is_hex_digit d then hex_escape_in (d ∷ cs) else escaped d)
    (hex-no_newline d h)
    ∙ pick-true (is_hex_digit d) (hex_escape_in (d ∷ cs)) (escaped d) h

-- a part of the definition is the one that the text begins with
pub part_of-is : (p : Part) (behind : Text) → IsPart p behind → part_of (part_text p ++ behind) ≡ p
part_of-is (itself c) behind h = rw h refl
part_of-is (escaped c) behind h = rw h.1 (rw h.0 refl)
part_of-is (hex_escape [] blank) behind h = let some : 1 ≤ length {A = ℕ} [] = h.some in
    absurd (omega (arith, some))
part_of-is (hex_escape (d ∷ ds) blank) behind h =
    let here : is_hex_digit d ≡ true = and-left (is_hex_digit d) (list_all is_hex_digit ds) h.are_digits in
    escape_in-code d ((ds ++ blank) ++ behind) here
    ∙ (ap (λ cs. hex_escape_in (d ∷ cs)) (append_assoc ds blank behind)
    ∙ hex_escape_in-is (d ∷ ds) blank behind h)
part_of-is escaped_newline behind h = refl
part_of-is escape_at_end behind h = subst (λ cs. part_of (backslash ∷ cs) ≡ escape_at_end) (sym h) refl

-- ---- all parts in front

parts_after-drop : (place : Place) (n : ℕ) (cs : Text) → parts_after place n cs ≡ parts_in place (drop n cs)
unfolding parts_after
parts_after-drop place zero [] = refl
parts_after-drop place (suc n) [] = refl
parts_after-drop place zero (c ∷ cs) = refl
parts_after-drop place (suc n) (c ∷ cs) = parts_after-drop place n cs

pub parts_in-nil : (place : Place) → parts_in place [] ≡ []
unfolding parts_after
parts_in-nil place = refl

-- the first part, and those after it
pub parts_in-cons : (place : Place) (c : ℕ) (cs : Text) → may_stand place (part_in c cs) ≡ true
    → parts_in place (c ∷ cs)
    ≡ part_in c cs ∷ parts_in place (drop (pred (length (part_text (part_in c cs)))) cs)
unfolding parts_after
parts_in-cons place c cs a =
    rw a (ap (λ ps. part_in c cs ∷ ps)
    (parts_after-drop place (pred (length (part_text (part_in c cs)))) cs))

pub parts_in-stop : (place : Place) (c : ℕ) (cs : Text) → may_stand place (part_in c cs) ≡ false
    → parts_in place (c ∷ cs) ≡ []
unfolding parts_after
parts_in-stop place c cs a = rw a refl

-- the same, of a part of the definition
parts_in-front : (place : Place) (p : Part) (c : ℕ) (cs rest : Text) → part_text p ++ rest ≡ c ∷ cs
    → part_in c cs ≡ p → may_stand place p ≡ true → drop (pred (length (part_text p))) cs ≡ rest
    → parts_in place (c ∷ cs) ≡ p ∷ parts_in place rest
parts_in-front place p c cs rest front is a behind =
    parts_in-cons place c cs (ap (may_stand place) is ∙ a)
    ∙ (ap (λ q. q ∷ parts_in place (drop (pred (length (part_text q))) cs)) is
    ∙ ap (λ xs. p ∷ parts_in place xs) behind)

parts_in-part : (place : Place) (p : Part) (rest : Text) → may_stand place p ≡ true → IsPart p rest
    → parts_in place (part_text p ++ rest) ≡ p ∷ parts_in place rest
parts_in-part place (itself c) rest a h =
    parts_in-front place (itself c) c rest rest refl (part_of-is (itself c) rest h) a refl
parts_in-part place (escaped c) rest a h =
    parts_in-front place (escaped c) backslash (c ∷ rest) rest refl (part_of-is (escaped c) rest h) a refl
parts_in-part place (hex_escape digits blank) rest a h =
    parts_in-front place (hex_escape digits blank) backslash ((digits ++ blank) ++ rest) rest refl
    (part_of-is (hex_escape digits blank) rest h) a (drop-append_seam (digits ++ blank) rest)
parts_in-part place escaped_newline rest a h =
    parts_in-front place escaped_newline backslash (10 ∷ rest) rest refl refl a refl
parts_in-part place escape_at_end rest a h =
    parts_in-front place escape_at_end backslash rest rest refl (part_of-is escape_at_end rest h) a refl

-- parts of the definition are in front, and then those of what is after them
pub parts_in-are : (place : Place) (parts : List Part) (behind : Text) → AreParts place parts behind
    → parts_in place (parts_text parts ++ behind) ≡ parts ++ parts_in place behind
parts_in-are place [] behind h = refl
parts_in-are place (p ∷ parts) behind h =
    ap (parts_in place) (append_assoc (part_text p) (parts_text parts) behind)
    ∙ (parts_in-part place p (parts_text parts ++ behind) h.0 h.1
    ∙ ap (λ ps. p ∷ ps) (parts_in-are place parts behind h.2))

-- ---- the parts in front are those of the definition

-- the part that a text begins with, and what is after it
record Part1 (p : Part) (c : ℕ) (cs : Text) : Type 0 where
  joins : part_text p ++ drop (pred (length (part_text p))) cs ≡ c ∷ cs
  is : IsPart p (drop (pred (length (part_text p))) cs)

hex_digits_in-joins : (n : ℕ) (cs : Text) → hex_digits_in n cs ++ drop (length (hex_digits_in n cs)) cs ≡ cs
hex_digits_in-joins zero cs = refl
hex_digits_in-joins (suc n) [] = refl
hex_digits_in-joins (suc n) (c ∷ cs) = elim (cases_Bool (is_hex_digit c)) [
  | inl t ↦ rw t (ap (λ xs. c ∷ xs) (hex_digits_in-joins n cs))
  | inr f ↦ rw f refl
]

hex_digits_in-pass : (n : ℕ) (cs : Text) → list_all is_hex_digit (hex_digits_in n cs) ≡ true
hex_digits_in-pass zero cs = refl
hex_digits_in-pass (suc n) [] = refl
hex_digits_in-pass (suc n) (c ∷ cs) = elim (cases_Bool (is_hex_digit c)) [
  | inl t ↦ rw t (rw t (hex_digits_in-pass n cs))
  | inr f ↦ rw f refl
]

hex_digits_in-few : (n : ℕ) (cs : Text) → length (hex_digits_in n cs) ≤ n
hex_digits_in-few zero cs = omega arith
hex_digits_in-few (suc n) [] = omega arith
hex_digits_in-few (suc n) (c ∷ cs) = elim (cases_Bool (is_hex_digit c)) [
  | inl t ↦ let more : length (hex_digits_in n cs) ≤ n = hex_digits_in-few n cs in
      rw t (omega (arith, more))
  | inr f ↦ rw f (omega arith)
]

hex_digits_in-end : (n : ℕ) (cs : Text)
    → (length (hex_digits_in n cs) ≡ n) ⊎ (begins is_hex_digit (drop (length (hex_digits_in n cs)) cs)
    ≡ false)
hex_digits_in-end zero cs = inl refl
hex_digits_in-end (suc n) [] = inr refl
hex_digits_in-end (suc n) (c ∷ cs) = elim (cases_Bool (is_hex_digit c)) [
  | inl t ↦ rw t (elim (hex_digits_in-end n cs) [ inl full ↦ inl (ap suc full) | inr ends ↦ inr ends ])
  | inr f ↦ rw f (inr f)
]

pub one_in-joins : (test : ℕ → Bool) (cs : Text) → one_in test cs ++ drop (length (one_in test cs)) cs ≡ cs
one_in-joins test [] = refl
one_in-joins test (c ∷ cs) = elim (cases_Bool (test c)) [ inl t ↦ rw t refl | inr f ↦ rw f refl ]

one_in-blank : (cs : Text) → is_at_most_one is_whitespace (one_in is_whitespace cs) ≡ true
one_in-blank [] = refl
one_in-blank (c ∷ cs) = elim (cases_Bool (is_whitespace c)) [ inl t ↦ rw t (rw t refl) | inr f ↦ rw f refl ]

code_over : (digits cs : Text) → (length digits ≡ 6) ⊎ (begins is_hex_digit cs ≡ false)
    → is_hex_escape_over digits (one_in is_whitespace cs) (drop (length (one_in is_whitespace cs)) cs)
    ≡ true
code_over digits [] e = or-right (length digits == 6) true refl
code_over digits (c ∷ cs) e = elim (cases_Bool (is_whitespace c)) [
  | inl t ↦ rw t refl
  | inr f ↦ rw f (both (not (is_whitespace c)) ((length digits == 6) || not (is_hex_digit c))
      (not-false (is_whitespace c) f)
      (elim e [
        | inl full ↦ or-left (length digits == 6) (not (is_hex_digit c)) (eq-eqb (length digits) 6 full)
        | inr ends ↦ or-right (length digits == 6) (not (is_hex_digit c)) (not-false (is_hex_digit c) ends)
      ]))
]

hex_digits_in-some : (d : ℕ) (cs : Text) → is_hex_digit d ≡ true → 1 ≤ length (hex_digits_in 6 (d ∷ cs))
hex_digits_in-some d cs h =
    subst (λ xs. 1 ≤ length xs) (sym (pick-true (is_hex_digit d) (d ∷ hex_digits_in 5 cs) [] h))
    (omega arith)

-- the hex escape that begins with this digit
code-part : (d : ℕ) (cs : Text) → is_hex_digit d ≡ true → Part1 (hex_escape_in (d ∷ cs)) backslash (d ∷ cs)
code-part d cs h =
    let digits : Text = hex_digits_in 6 (d ∷ cs) in
    let rest : Text = drop (length digits) (d ∷ cs) in
    let blank : Text = one_in is_whitespace rest in
    let behind : Text = drop (length blank) rest in
    let joins : (digits ++ blank) ++ behind ≡ d ∷ cs = append_assoc digits blank behind
    ∙ (ap (λ xs. digits ++ xs) (one_in-joins is_whitespace rest) ∙ hex_digits_in-joins 6 (d ∷ cs)) in
    let there : drop (length (digits ++ blank)) (d ∷ cs) ≡ behind =
    ap (drop (length (digits ++ blank))) (sym joins) ∙ drop-append_seam (digits ++ blank) behind in
    record {
      joins = ap (λ xs. backslash ∷ ((digits ++ blank) ++ xs)) there ∙ ap (λ xs. backslash ∷ xs) joins;
      is = subst (IsPart (hex_escape digits blank)) (sym there) (record {
        are_digits = hex_digits_in-pass 6 (d ∷ cs);
        some = hex_digits_in-some d cs h;
        few = hex_digits_in-few 6 (d ∷ cs);
        is_blank = one_in-blank rest;
        over = code_over digits rest (hex_digits_in-end 6 (d ∷ cs));
      });
    }

escape-part : (cs : Text) → Part1 (escape_in cs) backslash cs
escape-part [] = record { joins = refl; is = refl }
escape-part (d ∷ cs) = elim (cases_Bool (is_newline d)) [
  | inl t ↦ rw (eqb-true d 10 t) (record { joins = refl; is = tt })
  | inr f ↦ elim (cases_Bool (is_hex_digit d)) [
    | inl t ↦ subst (λ p. Part1 p backslash (d ∷ cs)) (sym (escape_in-code d cs t)) (code-part d cs t)
    | inr n ↦ subst (λ p. Part1 p backslash (d ∷ cs))
        (sym (pick-false (is_newline d) escaped_newline
        (if is_hex_digit d then hex_escape_in (d ∷ cs) else escaped d) f
        ∙ pick-false (is_hex_digit d) (hex_escape_in (d ∷ cs)) (escaped d) n)) (record {
          joins = refl;
          is = (n, f);
        })
  ]
]

part-part : (c : ℕ) (cs : Text) → Part1 (part_in c cs) c cs
part-part c cs = elim (cases_Bool (c == backslash)) [
  | inl t ↦ subst (λ p. Part1 p c cs) (sym (pick-true (c == backslash) (escape_in cs) (itself c) t))
      (subst (λ x. Part1 (escape_in cs) x cs) (sym (eqb-true c backslash t)) (escape-part cs))
  | inr f ↦ subst (λ p. Part1 p c cs) (sym (pick-false (c == backslash) (escape_in cs) (itself c) f))
      (record { joins = refl; is = f })
]

-- the parts in front, and what is after them
pub record Fronts (place : Place) (cs : Text) : Type 0 where
  pub joins : parts_text (parts_in place cs) ++ after_parts (parts_in place cs) cs ≡ cs
  pub are : AreParts place (parts_in place cs) (after_parts (parts_in place cs) cs)
  pub ends : parts_in place (after_parts (parts_in place cs) cs) ≡ []

-- one part more is in front
fronts-cons : (place : Place) (p : Part) (cs rest : Text) → part_text p ++ rest ≡ cs
    → may_stand place p ≡ true → IsPart p rest → Fronts place rest → Fronts place cs
fronts-cons place p cs rest joins a h more =
    let parts : List Part = parts_in place rest in
    let behind : Text = after_parts parts rest in
    let front : parts_in place cs ≡ p ∷ parts = ap (parts_in place) (sym joins)
    ∙ parts_in-part place p rest a h in
    let whole : parts_text (p ∷ parts) ++ behind ≡ cs = append_assoc (part_text p) (parts_text parts) behind
    ∙ (ap (λ xs. part_text p ++ xs) more.joins ∙ joins) in
    let there : after_parts (p ∷ parts) cs ≡ behind = ap (after_parts (p ∷ parts)) (sym whole)
    ∙ drop-append_seam (parts_text (p ∷ parts)) behind in
    let there' : after_parts (parts_in place cs) cs ≡ behind = ap (λ ps. after_parts ps cs) front ∙ there in
    record {
      joins = ap (λ ps. parts_text ps ++ after_parts (parts_in place cs) cs) front
          ∙ (ap (λ xs. parts_text (p ∷ parts) ++ xs) there' ∙ whole);
      are = subst (λ ps. AreParts place ps (after_parts (parts_in place cs) cs)) (sym front)
          (subst (AreParts place (p ∷ parts)) (sym there')
          (a, subst (IsPart p) (sym more.joins) h, more.are));
      ends = ap (parts_in place) there' ∙ more.ends;
    }

fronts-none : (place : Place) (cs : Text) → parts_in place cs ≡ [] → Fronts place cs
fronts-none place cs none =
    let there : after_parts (parts_in place cs) cs ≡ cs = ap (λ ps. after_parts ps cs) none in
    record {
      joins = ap (λ ps. parts_text ps ++ after_parts (parts_in place cs) cs) none ∙ there;
      are = subst (λ ps. AreParts place ps (after_parts (parts_in place cs) cs)) (sym none) tt;
      ends = ap (parts_in place) there ∙ none;
    }

-- by the length of the text
fronts-within : (n : ℕ) (place : Place) (cs : Text) → length cs ≤ n → Fronts place cs
fronts-within n place [] l = fronts-none place [] (parts_in-nil place)
fronts-within zero place (c ∷ cs) l = absurd (omega (arith, l))
fronts-within (suc n) place (c ∷ cs) l = elim (cases_Bool (may_stand place (part_in c cs))) [
  | inl t ↦
      let rest : Text = drop (pred (length (part_text (part_in c cs)))) cs in
      let one : Part1 (part_in c cs) c cs = part-part c cs in
      let shorter : length rest ≤ length cs =
      rw (length-drop (pred (length (part_text (part_in c cs)))) cs) (omega arith) in
      fronts-cons place (part_in c cs) (c ∷ cs) rest one.joins t one.is
      (fronts-within n place rest (omega (arith, l, shorter)))
  | inr f ↦ fronts-none place (c ∷ cs) (parts_in-stop place c cs f)
]

pub fronts : (place : Place) (cs : Text) → Fronts place cs
fronts place cs = fronts-within (length cs) place cs (omega arith)
