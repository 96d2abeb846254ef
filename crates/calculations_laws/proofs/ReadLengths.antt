-- A computed length is read back from its text.
use Rattle.std.proofs.Common.{◌≡◌, ◌∙◌, refl, ap, ap₂, sym, ℕ, zero, suc, ◌<◌, ◌≤◌, ◌+◌, ◌==◌, inl, inr, not, List, [], ◌∷◌, ◌++◌, append_assoc, append-nil, get_or, drop, length as count, Bool, true, false, if◌then◌else◌, arith, codes, nat_lt}
use Rattle.std.specs.Prelude.{ℤ, pos, neg_ℤ}
use Rattle.std.specs.Fmt.{signed_decimal}
use Rattle.std.specs.List.{list_all, join_with_byte}
use Rattle.std.proofs.lemmas.Bool.{and_parts, or_cases, lt-ltb, false≢true}
use Rattle.std.proofs.lemmas.List.{length-append}
use Rattle.std.proofs.lemmas.List.Folds.{list_all-append}
use Rattle.units64.specs.declared.constants.TheConstants.{MAX_UNITS}
use Rattle.css_model.specs.Classes.{comma}
use Rattle.value_model.specs.Calculations.{ComputedLeaf, in_units, in_pixels, in_percent, ComputedLength, leaf, sum, scaled, divided, smallest, largest, Calculations, no_calculations, calculation, leaves, all_leaves, call_text, length_text, length_texts}
use Rattle.calculations_laws.specs.ComputedLengths.{is_length, are_units, is_mixed, is_of_units}
use Rattle.calculations_laws.specs.LengthTexts.{IsShort, HasShortLeaves, HaveShortLeaves, TellsLengthsApart}
use Rattle.calculations_laws.proofs.Numerals.{signed_value, value-signed, numeral-first, short-units, number_part, past_number, Ends, part-is, past-is, signed-all}

-- ---- reading

abbrev pub Reading : Type 0
Reading = ComputedLength × List ℕ

abbrev pub OthersReading : Type 0
OthersReading = Calculations ComputedLeaf × List ℕ

pub data Head : Type 0 where
  numeral : Head
  pixels : Head
  percent : Head
  added : Head
  multiplied : Head
  quotient : Head
  minimum : Head
  maximum : Head

-- by the first and the third code point
abbrev pub head : ℕ → ℕ → Head
head c e =
    if nat_lt c 58 then numeral
    else if e == 58 then pixels
    else if e == 116 then percent
    else if e == 100 then added
    else if e == 97 then multiplied
    else if e == 101 then quotient
    else if e == 110 then minimum
    else maximum

-- a number in front
abbrev pub read_leaf : (ℤ → ComputedLeaf) → List ℕ → Reading
read_leaf f text = (leaf (f (signed_value (number_part text))), past_number text)

-- behind a part: a comma, a second part and a bracket
abbrev pub read_second : (List ℕ → Reading) → Reading → Reading
read_second read first =
    let second = read (drop 1 first.1) in (sum first.0 second.0, drop 1 second.1)

-- behind a part: a comma, a number and a bracket
abbrev pub read_number : (ComputedLength → ℤ → ComputedLength) → Reading → Reading
read_number f first = (
  f first.0 (signed_value (number_part (drop 1 first.1))),
  drop 1 (past_number (drop 1 first.1)),
)

-- behind a part: other parts and a bracket
abbrev pub read_more : (List ℕ → OthersReading)
    → (ComputedLength → Calculations ComputedLeaf → ComputedLength) → Reading → Reading
read_more others f first =
    let more = others first.1 in (f first.0 more.0, drop 1 more.1)

abbrev pub read_by : (List ℕ → Reading) → (List ℕ → OthersReading) → Head → List ℕ → Reading
read_by read others numeral text = read_leaf (λ n. in_units n) text
read_by read others pixels text = read_leaf (λ n. in_pixels n) (drop 3 text)
read_by read others percent text = read_leaf (λ n. in_percent n) (drop 4 text)
read_by read others added text = read_second read (read (drop 4 text))
read_by read others multiplied text = read_number (λ a n. scaled a n) (read (drop 6 text))
read_by read others quotient text = read_number (λ a n. divided a n) (read (drop 5 text))
read_by read others minimum text = read_more others (λ a cs. smallest a cs) (read (drop 4 text))
read_by read others maximum text = read_more others (λ a cs. largest a cs) (read (drop 4 text))

-- one more of the other parts, and those behind it
abbrev pub read_next : (List ℕ → OthersReading) → Reading → OthersReading
read_next others first = let more = others first.1 in (calculation first.0 more.0, more.1)

abbrev pub others_by : (List ℕ → Reading) → (List ℕ → OthersReading) → Bool → List ℕ → OthersReading
others_by read others true text = read_next others (read (drop 1 text))
others_by read others false text = (no_calculations, text)

abbrev mutual
  -- a length in front, and what follows it
  pub read_tree : ℕ → List ℕ → Reading
  read_tree zero text = (leaf (in_units (pos 0)), text)
  read_tree (suc n) text =
      read_by (read_tree n) (read_others n) (head (get_or text 0 0) (get_or text 2 0)) text

  -- lengths behind commas, and what follows them
  pub read_others : ℕ → List ℕ → OthersReading
  read_others zero text = (no_calculations, text)
  read_others (suc n) text = others_by (read_tree n) (read_others n) (get_or text 0 0 == comma) text

abbrev pub read_length : List ℕ → ComputedLength
read_length text = (read_tree (suc (count text)) text).0

-- ---- how deep a reading goes

abbrev mutual
  pub depth : ComputedLength → ℕ
  depth (leaf l) = 0
  depth (sum a b) = suc (depth a + depth b)
  depth (scaled a factor) = suc (depth a)
  depth (divided a divisor) = suc (depth a)
  depth (smallest a others) = suc (depth a + depths others)
  depth (largest a others) = suc (depth a + depths others)

  pub depths : Calculations ComputedLeaf → ℕ
  depths no_calculations = 0
  depths (calculation a others) = suc (depth a + depths others)

-- ---- texts

-- other parts, each behind a comma
abbrev pub others_text : Calculations ComputedLeaf → List ℕ
others_text no_calculations = []
others_text (calculation a others) = comma ∷ (length_text a ++ others_text others)

joined : (x : List ℕ) (others : Calculations ComputedLeaf)
    → join_with_byte comma (x ∷ length_texts others) ≡ x ++ others_text others
joined x no_calculations = sym (append-nil x)
joined x (calculation a others) = ap (λ r. x ++ comma ∷ r) (joined (length_text a) others)

-- a call, and what follows it
call-then : (name inner s : List ℕ) (parts : List (List ℕ)) → join_with_byte comma parts ≡ inner
    → call_text name parts ++ s ≡ name ++ (40 ∷ (inner ++ (41 ∷ s)))
call-then name inner s parts e =
    append_assoc name (40 ∷ (join_with_byte comma parts ++ (41 ∷ []))) s
    ∙ (ap (λ r. name ++ (40 ∷ r)) (append_assoc (join_with_byte comma parts) (41 ∷ []) s)
    ∙ ap (λ r. name ++ (40 ∷ (r ++ (41 ∷ s)))) e)

-- two parts, and what follows the call
two-then : (name x y s : List ℕ)
    → call_text name (x ∷ y ∷ []) ++ s ≡ name ++ (40 ∷ (x ++ (comma ∷ (y ++ (41 ∷ s)))))
two-then name x y s =
    call-then name (x ++ (comma ∷ y)) s (x ∷ y ∷ []) refl
    ∙ ap (λ r. name ++ (40 ∷ r)) (append_assoc x (comma ∷ y) (41 ∷ s))

-- one part and others, and what follows the call
more-then : (name x s : List ℕ) (others : Calculations ComputedLeaf)
    → call_text name (x ∷ length_texts others) ++ s ≡ name ++ (40 ∷ (x ++ (others_text others ++ (41 ∷ s))))
more-then name x s others =
    call-then name (x ++ others_text others) s (x ∷ length_texts others) (joined x others)
    ∙ ap (λ r. name ++ (40 ∷ r)) (append_assoc x (others_text others) (41 ∷ s))

-- ---- no units

abbrev pub NoUnits : List ComputedLeaf → Type 0
NoUnits ls = list_all (λ l. not (is_of_units l)) ls ≡ true

no-units : (ks ls : List ComputedLeaf) → NoUnits (ks ++ ls) → NoUnits ks × NoUnits ls
no-units ks ls h =
    and_parts (list_all (λ l. not (is_of_units l)) ks) (list_all (λ l. not (is_of_units l)) ls)
    (sym (list_all-append (λ l. not (is_of_units l)) ks ls) ∙ h)

-- ---- what is read

leaf-read : (f : ℤ → ComputedLeaf) (z : ℤ) (s : List ℕ) → IsShort z → Ends s
    → read_leaf f (signed_decimal z ++ s) ≡ (leaf (f z), s)
leaf-read f z s short e =
    let all = signed-all z short in
    ap₂ (λ (n : ℤ) (r : List ℕ). (leaf (f n), r))
    (ap signed_value (part-is (signed_decimal z) s all e) ∙ value-signed z short)
    (past-is (signed_decimal z) s all e)

number-read : (f : ComputedLength → ℤ → ComputedLength) (a : ComputedLength) (z : ℤ) (s : List ℕ)
    → IsShort z → read_number f (a, comma ∷ (signed_decimal z ++ (41 ∷ s))) ≡ (f a z, s)
number-read f a z s short =
    let all = signed-all z short in
    ap₂ (λ (n : ℤ) (r : List ℕ). (f a n, drop 1 r))
    (ap signed_value (part-is (signed_decimal z) (41 ∷ s) all refl) ∙ value-signed z short)
    (past-is (signed_decimal z) (41 ∷ s) all refl)

mutual
  tree-read : (c : ComputedLength) (n : ℕ) (s : List ℕ) → depth c < n → HasShortLeaves c
      → NoUnits (leaves c) → Ends s → read_tree n (length_text c ++ s) ≡ (c, s)
  tree-read c zero s d h u e = absurd (omega (arith, d))
  tree-read (leaf (in_units z)) (suc n) s d h u e = absurd (false≢true u)
  tree-read (leaf (in_pixels z)) (suc n) s d h u e = leaf-read (λ m. in_pixels m) z s h e
  tree-read (leaf (in_percent z)) (suc n) s d h u e = leaf-read (λ m. in_percent m) z s h e
  tree-read (sum a b) (suc n) s d h u e =
      let us = no-units (leaves a) (leaves b) u in
      let first = tree-read a n (comma ∷ (length_text b ++ (41 ∷ s))) (omega (arith, d)) h.0 us.0 refl in
      let second = tree-read b n (41 ∷ s) (omega (arith, d)) h.1 us.1 refl in
      ap (read_tree (suc n)) (two-then (codes "add") (length_text a) (length_text b) s)
      ∙ (ap (read_second (read_tree n)) first
      ∙ ap (λ (r : Reading). (sum a r.0, drop 1 r.1)) second)
  tree-read (scaled a z) (suc n) s d h u e =
      let first = tree-read a n (comma ∷ (signed_decimal z ++ (41 ∷ s))) (omega (arith, d)) h.0 u refl in
      ap (read_tree (suc n)) (two-then (codes "scale") (length_text a) (signed_decimal z) s)
      ∙ (ap (read_number (λ a n. scaled a n)) first ∙ number-read (λ a n. scaled a n) a z s h.1)
  tree-read (divided a z) (suc n) s d h u e =
      let first = tree-read a n (comma ∷ (signed_decimal z ++ (41 ∷ s))) (omega (arith, d)) h.0 u refl in
      ap (read_tree (suc n)) (two-then (codes "over") (length_text a) (signed_decimal z) s)
      ∙ (ap (read_number (λ a n. divided a n)) first ∙ number-read (λ a n. divided a n) a z s h.1)
  tree-read (smallest a others) (suc n) s d h u e =
      let us = no-units (leaves a) (all_leaves others) u in
      let first = tree-read a n (others_text others ++ (41 ∷ s)) (omega (arith, d)) h.0 us.0
      (others-end others (41 ∷ s) refl) in
      let more = others-read others n s (omega (arith, d)) h.1 us.1 in
      ap (read_tree (suc n)) (more-then (codes "min") (length_text a) s others)
      ∙ (ap (read_more (read_others n) (λ a cs. smallest a cs)) first
      ∙ ap (λ (r : OthersReading). (smallest a r.0, drop 1 r.1)) more)
  tree-read (largest a others) (suc n) s d h u e =
      let us = no-units (leaves a) (all_leaves others) u in
      let first = tree-read a n (others_text others ++ (41 ∷ s)) (omega (arith, d)) h.0 us.0
      (others-end others (41 ∷ s) refl) in
      let more = others-read others n s (omega (arith, d)) h.1 us.1 in
      ap (read_tree (suc n)) (more-then (codes "max") (length_text a) s others)
      ∙ (ap (read_more (read_others n) (λ a cs. largest a cs)) first
      ∙ ap (λ (r : OthersReading). (largest a r.0, drop 1 r.1)) more)

  others-read : (cs : Calculations ComputedLeaf) (n : ℕ) (s : List ℕ) → depths cs < n
      → HaveShortLeaves cs → NoUnits (all_leaves cs)
      → read_others n (others_text cs ++ (41 ∷ s)) ≡ (cs, 41 ∷ s)
  others-read cs zero s d h u = absurd (omega (arith, d))
  others-read no_calculations (suc n) s d h u = refl
  others-read (calculation a others) (suc n) s d h u =
      let us = no-units (leaves a) (all_leaves others) u in
      let first = tree-read a n (others_text others ++ (41 ∷ s)) (omega (arith, d)) h.0 us.0
      (others-end others (41 ∷ s) refl) in
      let more = others-read others n s (omega (arith, d)) h.1 us.1 in
      ap (λ (r : List ℕ). read_next (read_others n) (read_tree n r))
      (append_assoc (length_text a) (others_text others) (41 ∷ s))
      ∙ (ap (read_next (read_others n)) first
      ∙ ap (λ (r : OthersReading). (calculation a r.0, r.1)) more)

  -- no numeral goes on at other parts
  others-end : (cs : Calculations ComputedLeaf) (s : List ℕ) → Ends s → Ends (others_text cs ++ s)
  others-end no_calculations s e = e
  others-end (calculation a others) s e = refl

-- ---- a text is as long as its reading is deep

call-count : (name inner : List ℕ) (parts : List (List ℕ)) → join_with_byte comma parts ≡ inner
    → count inner < count (call_text name parts)
call-count name inner parts e =
    let all = length-append name (40 ∷ (join_with_byte comma parts ++ (41 ∷ []))) in
    let behind = length-append (join_with_byte comma parts) (41 ∷ []) in
    let same : count (join_with_byte comma parts) ≡ count inner = ap count e in
    omega (arith, all, behind, same)

mutual
  deep-enough : (c : ComputedLength) → depth c ≤ count (length_text c)
  deep-enough (leaf l) = omega arith
  deep-enough (sum a b) =
      let whole = call-count (codes "add") (length_text a ++ (comma ∷ length_text b))
      (length_text a ∷ length_text b ∷ []) refl in
      let parts = length-append (length_text a) (comma ∷ length_text b) in
      omega (arith, whole, parts, deep-enough a, deep-enough b)
  deep-enough (scaled a z) =
      let whole = call-count (codes "scale") (length_text a ++ (comma ∷ signed_decimal z))
      (length_text a ∷ signed_decimal z ∷ []) refl in
      let parts = length-append (length_text a) (comma ∷ signed_decimal z) in
      omega (arith, whole, parts, deep-enough a)
  deep-enough (divided a z) =
      let whole = call-count (codes "over") (length_text a ++ (comma ∷ signed_decimal z))
      (length_text a ∷ signed_decimal z ∷ []) refl in
      let parts = length-append (length_text a) (comma ∷ signed_decimal z) in
      omega (arith, whole, parts, deep-enough a)
  deep-enough (smallest a others) =
      let whole = call-count (codes "min") (length_text a ++ others_text others)
      (length_text a ∷ length_texts others) (joined (length_text a) others) in
      let parts = length-append (length_text a) (others_text others) in
      omega (arith, whole, parts, deep-enough a, others-deep-enough others)
  deep-enough (largest a others) =
      let whole = call-count (codes "max") (length_text a ++ others_text others)
      (length_text a ∷ length_texts others) (joined (length_text a) others) in
      let parts = length-append (length_text a) (others_text others) in
      omega (arith, whole, parts, deep-enough a, others-deep-enough others)

  others-deep-enough : (cs : Calculations ComputedLeaf) → depths cs ≤ count (others_text cs)
  others-deep-enough no_calculations = omega arith
  others-deep-enough (calculation a others) =
      let parts = length-append (length_text a) (others_text others) in
      omega (arith, parts, deep-enough a, others-deep-enough others)

-- ---- all computed lengths

pub mixed-read : (c : ComputedLength) → is_mixed c ≡ true → HasShortLeaves c
    → read_length (length_text c) ≡ c
mixed-read c m h =
    let u = (and_parts (list_all (λ l. not (is_of_units l)) (leaves c)) _ m).0 in
    ap (λ (text : List ℕ). (read_tree (suc (count (length_text c))) text).0) (sym (append-nil (length_text c)))
    ∙ ap (λ (r : Reading). r.0)
    (tree-read c (suc (count (length_text c))) [] (omega (arith, deep-enough c)) h u refl)

head-numeral : (c e : ℕ) → c < 58 → head c e ≡ numeral
head-numeral c e h = let below : nat_lt c 58 ≡ true = lt-ltb c 58 h in rw below refl

units-read : (z : ℤ) → IsShort z → read_length (signed_decimal z) ≡ leaf (in_units z)
units-read z h =
    let text : List ℕ = signed_decimal z in
    let n : ℕ = count text in
    ap (λ (k : Head). (read_by (read_tree n) (read_others n) k text).0)
    (head-numeral (get_or text 0 0) (get_or text 2 0) (numeral-first z h).1)
    ∙ (ap (λ (r : List ℕ). (read_leaf (λ m. in_units m) r).0) (sym (append-nil text))
    ∙ ap (λ (r : Reading). r.0) (leaf-read (λ m. in_units m) z [] h refl))

all-units-read : (c : ComputedLength) → are_units c ≡ true → read_length (length_text c) ≡ c
all-units-read (leaf (in_units z)) h = units-read z (short-units (neg_ℤ MAX_UNITS) z (omega arith) h)
all-units-read c h = absurd (false≢true h)

length-read : (c : ComputedLength) → is_length c ≡ true → HasShortLeaves c
    → read_length (length_text c) ≡ c
length-read c h s = elim (or_cases (are_units c) (is_mixed c) h) [
  | inl u ↦ all-units-read c u
  | inr m ↦ mixed-read c m s
]

pub lengths-apart : TellsLengthsApart
lengths-apart c d hc hd sc sd e = sym (length-read c hc sc) ∙ (ap read_length e ∙ length-read d hd sd)
