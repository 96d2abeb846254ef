-- What is in front of a text in UTF-8, by its bytes and by its code points.
use Rattle.std.proofs.Common.{◌≡◌, ◌∙◌, sym, ap, refl, subst, rules, ℕ, suc, ◌+◌, ◌-◌, ◌<◌, ◌≤◌, ◌==◌, ◌&&◌, List, [], ◌∷◌, ◌++◌, length, take, drop, get_or, length-append, append-nil, eqb-true, Bool, true, false, arith, inl, inr}
use Rattle.std.proofs.Math.Seq.{take-append_seam, drop-append_seam}
use Rattle.std.proofs.Math.Utf8.{scalars, encodes, encode, scalar}
use Rattle.std.proofs.lemmas.Bool.{cases_Bool, cases_lt, false≢true}
use Rattle.std.proofs.lemmas.Bool.Decides.{nat_tests}
use Rattle.std.proofs.lemmas.List.{take-append-drop}
use Rattle.std.proofs.lemmas.Str.{encode_ascii, length-encode, len_utf8_bounds, inside_one, encodes-chars, encodes-append, scalars-chars, chars-encodes, chars-append, chars-nil, chars-IsAscii, IsUtf8-from_ascii, IsCharBoundary-at_seam, IsCharBoundary-from_take}
use Rattle.std.proofs.lemmas.Str.Ascii.{IsAscii-cons, IsAscii-nil}
use Rattle.std.specs.List.{prefix_len, starts_with}
use Rattle.std.specs.Str.{chars, IsUtf8, IsAscii, IsCharBoundary}
use Rattle.css_model.specs.Classes.{Text, begins, has_front}
use Rattle.css_model.specs.inner.Fronts.{run_in, one_in}
use Rattle.css_model.proofs.Tests.{and-left, and-right}
use Rattle.css_model.proofs.Runs.{runs}
use Rattle.css_tokens.specs.declared.classes.Class.{Class}
use Rattle.css_tokens.specs.declared.classes.Class.TheVariants.{Digit, HexDigit, Whitespace, Sign, Hyphen, Mark, Quote, OpenRound, CloseRound}
use Rattle.css_tokens.specs.inner.Classes.{test_of}
use Rattle.css_tokens.specs.inner.Texts.{AreAscii, IsRest, front_of}
use Rattle.css_tokens.proofs.RunSteps.{run-length, run-take, one-take}

-- a code point past ASCII is written in bytes past ASCII
pub high-byte : (c k : ℕ) → 128 ≤ c → k < length (encode c) → 128 ≤ get_or (encode c) k 0
high-byte c k h l = elim (cases_lt (get_or (encode c) k 0) 128) [
  | inl low ↦ absurd (omega (arith, h, low, inside_one c [] (encode c) k (sym (append-nil (encode c))) l low))
  | inr high ↦ high
]

pub some-byte : (c : ℕ) → 0 < length (encode c)
some-byte c = omega (arith, length-encode c, (len_utf8_bounds c).0)

pub low-bytes : (c : ℕ) (cs : Text) → c < 128 → encodes (c ∷ cs) ≡ c ∷ encodes cs
low-bytes c cs h = ap (λ b. b ++ encodes cs) (encode_ascii c h)

-- ---- runs

-- no code point past ASCII passes
abbrev pub IsLow : (ℕ → Bool) → Type 0
IsLow test = (c : ℕ) → 128 ≤ c → test c ≡ false

-- each code point past ASCII passes
abbrev pub IsHigh : (ℕ → Bool) → Type 0
IsHigh test = (c : ℕ) → 128 ≤ c → test c ≡ true

run-all : (test : ℕ → Bool) (xs ys : Text) → ((k : ℕ) → k < length xs → test (get_or xs k 0) ≡ true) → run_in test (xs ++ ys) ≡ xs ++ run_in test ys
run-all test [] ys h = refl
run-all test (x ∷ xs) ys h =
    let here : test x ≡ true = h 0 (omega arith) in
    let more : run_in test (xs ++ ys) ≡ xs ++ run_in test ys = run-all test xs ys (λ k l. h (suc k) (omega (arith, l))) in
    rw here (ap (λ l. x ∷ l) more)

run-none : (test : ℕ → Bool) (xs ys : Text) → 0 < length xs → test (get_or xs 0 0) ≡ false → run_in test (xs ++ ys) ≡ []
run-none test [] ys l f = absurd (omega (arith, l))
run-none test (x ∷ xs) ys l f = let none : test x ≡ false = f in rw none refl

run-same : (test : ℕ → Bool) (c : ℕ) (xs ys : Text) → run_in test xs ≡ run_in test ys → run_in test (c ∷ xs) ≡ run_in test (c ∷ ys)
run-same test c xs ys e = elim (cases_Bool (test c)) [
  | inl t ↦ rw t (ap (λ l. c ∷ l) e)
  | inr f ↦ rw f refl
]

-- within ASCII a run of bytes is the run of code points
low-run : (test : ℕ → Bool) → IsLow test → (cs : Text) → run_in test (encodes cs) ≡ run_in test cs
low-run test low [] = refl
low-run test low (c ∷ cs) = elim (cases_lt c 128) [
  | inl h ↦ ap (run_in test) (low-bytes c cs h) ∙ run-same test c (encodes cs) cs (low-run test low cs)
  | inr h ↦
      let none : test c ≡ false = low c h in
      let empty : run_in test (c ∷ cs) ≡ [] = rw none refl in
      run-none test (encode c) (encodes cs) (some-byte c) (low (get_or (encode c) 0 0) (high-byte c 0 h (some-byte c))) ∙ sym empty
]

pub low-passes : (test : ℕ → Bool) → IsLow test → (c : ℕ) → test c ≡ true → c < 128
low-passes test low c t = elim (cases_lt c 128) [
  | inl h ↦ h
  | inr h ↦ absurd (false≢true (sym (low c h) ∙ t))
]

run-ascii : (test : ℕ → Bool) → IsLow test → (cs : Text) → IsAscii (run_in test cs)
run-ascii test low [] = IsAscii-nil
run-ascii test low (c ∷ cs) = elim (cases_Bool (test c)) [
  | inl t ↦
      rw t (IsAscii-cons c (run_in test cs) (low-passes test low c t) (run-ascii test low cs))
  | inr f ↦ rw f IsAscii-nil
]

encodes-run : (test : ℕ → Bool) (c : ℕ) (cs : Text) → test c ≡ true → encodes (run_in test (c ∷ cs)) ≡ encode c ++ encodes (run_in test cs)
encodes-run test c cs t = rw t refl

encodes-none : (test : ℕ → Bool) (c : ℕ) (cs : Text) → test c ≡ false → encodes (run_in test (c ∷ cs)) ≡ []
encodes-none test c cs f = rw f refl

-- where all past ASCII passes, a run of bytes writes the run of code points
high-run : (test : ℕ → Bool) → IsHigh test → (cs : Text) → run_in test (encodes cs) ≡ encodes (run_in test cs)
high-run test high [] = refl
high-run test high (c ∷ cs) = elim (cases_lt c 128) [
  | inl h ↦ elim (cases_Bool (test c)) [
    | inl t ↦
        let bytes : run_in test (c ∷ encodes cs) ≡ c ∷ run_in test (encodes cs) = rw t refl in
        ap (run_in test) (low-bytes c cs h) ∙ (bytes ∙ (ap (λ l. c ∷ l) (high-run test high cs)
        ∙ (sym (low-bytes c (run_in test cs) h) ∙ sym (encodes-run test c cs t))))
    | inr f ↦
        let bytes : run_in test (c ∷ encodes cs) ≡ [] = rw f refl in
        ap (run_in test) (low-bytes c cs h) ∙ (bytes ∙ sym (encodes-none test c cs f))
  ]
  | inr h ↦
      run-all test (encode c) (encodes cs) (λ k l. high (get_or (encode c) k 0) (high-byte c k h l))
      ∙ (ap (λ l. encode c ++ l) (high-run test high cs) ∙ sym (encodes-run test c cs (high c h)))
]

-- ---- one code point, and a front of ASCII

one-none : (test : ℕ → Bool) (xs ys : Text) → 0 < length xs → test (get_or xs 0 0) ≡ false → one_in test (xs ++ ys) ≡ []
one-none test [] ys l f = absurd (omega (arith, l))
one-none test (x ∷ xs) ys l f = let none : test x ≡ false = f in rw none refl

low-one : (test : ℕ → Bool) → IsLow test → (cs : Text) → one_in test (encodes cs) ≡ one_in test cs
low-one test low [] = refl
low-one test low (c ∷ cs) = elim (cases_lt c 128) [
  | inl h ↦ ap (one_in test) (low-bytes c cs h)
  | inr h ↦
      let none : test c ≡ false = low c h in
      let empty : one_in test (c ∷ cs) ≡ [] = rw none refl in
      one-none test (encode c) (encodes cs) (some-byte c) (low (get_or (encode c) 0 0) (high-byte c 0 h (some-byte c))) ∙ sym empty
]

one-ascii : (test : ℕ → Bool) → IsLow test → (cs : Text) → IsAscii (one_in test cs)
one-ascii test low [] = IsAscii-nil
one-ascii test low (c ∷ cs) = elim (cases_Bool (test c)) [
  | inl t ↦ rw t (IsAscii-cons c [] (low-passes test low c t) IsAscii-nil)
  | inr f ↦ rw f IsAscii-nil
]

begins-first : (test : ℕ → Bool) (xs ys : Text) → 0 < length xs → begins test (xs ++ ys) ≡ test (get_or xs 0 0)
begins-first test [] ys l = absurd (omega (arith, l))
begins-first test (x ∷ xs) ys l = refl

pub low-begins : (test : ℕ → Bool) → IsLow test → (cs : Text) → begins test (encodes cs) ≡ begins test cs
low-begins test low [] = refl
low-begins test low (c ∷ cs) = elim (cases_lt c 128) [
  | inl h ↦ ap (begins test) (low-bytes c cs h)
  | inr h ↦
      begins-first test (encode c) (encodes cs) (some-byte c)
      ∙ (low (get_or (encode c) 0 0) (high-byte c 0 h (some-byte c)) ∙ sym (low c h))
]

front-none : (d : ℕ) (ds xs ys : Text) → 0 < length xs → (get_or xs 0 0 == d) ≡ false → has_front (d ∷ ds) (xs ++ ys) ≡ false
front-none d ds [] ys l f = absurd (omega (arith, l))
front-none d ds (x ∷ xs) ys l f = ap (λ b. b && has_front ds (xs ++ ys)) f

differs : (c d : ℕ) → 128 ≤ c → d < 128 → (c == d) ≡ false
differs c d h l = elim (cases_Bool (c == d)) [
  | inl t ↦ absurd (omega (arith, eqb-true c d t, h, l))
  | inr f ↦ f
]

-- what is in front in ASCII is there in bytes
pub front-bytes : (ds cs : Text) → AreAscii ds → has_front ds (encodes cs) ≡ has_front ds cs
front-bytes [] cs a = refl
front-bytes (d ∷ ds) [] a = refl
front-bytes (d ∷ ds) (c ∷ cs) a = elim (cases_lt c 128) [
  | inl h ↦ ap (has_front (d ∷ ds)) (low-bytes c cs h) ∙ ap (λ b. (c == d) && b) (front-bytes ds cs a.1)
  | inr h ↦
      front-none d ds (encode c) (encodes cs) (some-byte c) (differs (get_or (encode c) 0 0) d (high-byte c 0 h (some-byte c)) a.0)
      ∙ sym (ap (λ b. b && has_front ds cs) (differs c d h a.0))
]

-- ---- where a text is cut

scalars-front : (xs ys : Text) → scalars (xs ++ ys) ≡ true → scalars xs ≡ true
scalars-front [] ys e = refl
scalars-front (x ∷ xs) ys e =
    let here : scalar x ≡ true = and-left (scalar x) (scalars (xs ++ ys)) e in
    ap (λ b. b && scalars xs) here ∙ scalars-front xs ys (and-right (scalar x) (scalars (xs ++ ys)) e)

scalars-rest : (xs ys : Text) → scalars (xs ++ ys) ≡ true → scalars ys ≡ true
scalars-rest [] ys e = e
scalars-rest (x ∷ xs) ys e = scalars-rest xs ys (and-right (scalar x) (scalars (xs ++ ys)) e)

-- the first n bytes are these code points, and the bytes after them those
pub record Cut (bs : List ℕ) (n : ℕ) (xs ys : Text) : Type 0 where
  pub boundary : IsCharBoundary bs n
  pub front : chars (take n bs) ≡ xs
  pub rest : chars (drop n bs) ≡ ys

pub cut : (bs : List ℕ) (xs ys : Text) → IsUtf8 bs → xs ++ ys ≡ chars bs → Cut bs (length (encodes xs)) xs ys
cut bs xs ys u e =
    let all : bs ≡ encodes xs ++ encodes ys = sym (encodes-chars bs u) ∙ (ap encodes (sym e) ∙ encodes-append xs ys) in
    let valid : scalars (xs ++ ys) ≡ true = ap scalars e ∙ scalars-chars bs u in
    record {
      boundary = IsCharBoundary-at_seam bs (encodes xs) (encodes ys) all (ys, (scalars-rest xs ys valid, refl));
      front = ap (λ l. chars (take (length (encodes xs)) l)) all ∙ (ap chars (take-append_seam (encodes xs) (encodes ys)) ∙ chars-encodes xs (scalars-front xs ys valid));
      rest = ap (λ l. chars (drop (length (encodes xs)) l)) all ∙ (ap chars (drop-append_seam (encodes xs) (encodes ys)) ∙ chars-encodes ys (scalars-rest xs ys valid));
    }

-- the first n bytes are ASCII
pub record AsciiCut (bs : List ℕ) (n : ℕ) : Type 0 where
  pub boundary : IsCharBoundary bs n
  pub front : take n bs ≡ take n (chars bs)
  pub rest : chars (drop n bs) ≡ drop n (chars bs)

pub ascii-cut : (bs : List ℕ) (n : ℕ) → IsUtf8 bs → n ≤ length bs → IsAscii (take n bs) → AsciiCut bs n
ascii-cut bs n u l a =
    let xs : List ℕ = take n bs in
    let ys : List ℕ = drop n bs in
    let all : chars bs ≡ xs ++ chars ys =
    ap chars (sym (take-append-drop n bs)) ∙ (chars-append xs ys (IsUtf8-from_ascii xs a) ∙ ap (λ l. l ++ chars ys) (chars-IsAscii xs a)) in
    let size : n ≡ length xs = search rules in
    record {
      boundary = IsCharBoundary-from_take bs n u l (IsUtf8-from_ascii xs a);
      front = sym (take-append_seam xs (chars ys)) ∙ (ap (λ k. take k (xs ++ chars ys)) (sym size) ∙ ap (take n) (sym all));
      rest = sym (drop-append_seam xs (chars ys)) ∙ (ap (λ k. drop k (xs ++ chars ys)) (sym size) ∙ ap (drop n) (sym all));
    }

-- ---- what is known of a front by its length

-- the first n bytes are ASCII, and these code points
pub record AsciiFront (bs : List ℕ) (n : ℕ) (xs : Text) : Type 0 where
  pub ascii : IsAscii (take n bs)
  pub front : take n (chars bs) ≡ xs
  pub size : n ≡ length xs

pub ascii-front : (bs : List ℕ) (n : ℕ) (xs ys : Text) → n ≡ length xs → take (length xs) bs ≡ xs → xs ≡ ys → take (length ys) (chars bs) ≡ ys → IsAscii xs
    → AsciiFront bs n ys
ascii-front bs n xs ys size bytes same front ascii =
    let size' : n ≡ length ys = size ∙ ap length same in
    record {
      ascii = subst (λ l. IsAscii l) (sym (ap (λ k. take k bs) size ∙ bytes)) ascii;
      front = ap (λ k. take k (chars bs)) size' ∙ front;
      size = size';
    }

pub class-low : (class : Class) → IsLow (test_of class)
class-low Digit c h = grind (arith, nat_tests)
class-low HexDigit c h = grind (arith, nat_tests)
class-low Whitespace c h = grind (arith, nat_tests)
class-low Sign c h = grind (arith, nat_tests)
class-low Hyphen c h = grind (arith, nat_tests)
class-low Mark c h = grind (arith, nat_tests)
class-low Quote c h = grind (arith, nat_tests)
class-low OpenRound c h = grind (arith, nat_tests)
class-low CloseRound c h = grind (arith, nat_tests)

-- a run of a class
pub class-run : (class : Class) (bs : List ℕ) (n : ℕ) → IsUtf8 bs → n ≡ prefix_len (test_of class) bs → AsciiFront bs n (run_in (test_of class) (chars bs))
class-run class bs n u e =
    let test : ℕ → Bool = test_of class in
    ascii-front bs n (run_in test bs) (run_in test (chars bs)) (e ∙ run-length test bs) (run-take test bs)
    (ap (run_in test) (sym (encodes-chars bs u)) ∙ low-run test (class-low class) (chars bs)) (run-take test (chars bs)) (run-ascii test (class-low class) bs)

-- at most one of a class
pub class-one : (class : Class) (bs : List ℕ) (n : ℕ) → IsUtf8 bs → n ≡ length (one_in (test_of class) bs) → AsciiFront bs n (one_in (test_of class) (chars bs))
class-one class bs n u e =
    let test : ℕ → Bool = test_of class in
    ascii-front bs n (one_in test bs) (one_in test (chars bs)) e (one-take test bs)
    (ap (one_in test) (sym (encodes-chars bs u)) ∙ low-one test (class-low class) (chars bs)) (one-take test (chars bs)) (one-ascii test (class-low class) bs)

pub bytes-begin : (class : Class) (bs : List ℕ) → IsUtf8 bs → begins (test_of class) bs ≡ begins (test_of class) (chars bs)
bytes-begin class bs u = ap (begins (test_of class)) (sym (encodes-chars bs u)) ∙ low-begins (test_of class) (class-low class) (chars bs)

-- the first n bytes are a run of a class that has all past ASCII
pub high-cut : (test : ℕ → Bool) → IsHigh test → (bs : List ℕ) (n : ℕ) → IsUtf8 bs → n ≡ prefix_len test bs
    → Cut bs n (run_in test (chars bs)) (drop (length (run_in test (chars bs))) (chars bs))
high-cut test high bs n u e =
    let run : Text = run_in test (chars bs) in
    let rest : Text = drop (length run) (chars bs) in
    let bytes : run_in test bs ≡ encodes run = ap (run_in test) (sym (encodes-chars bs u)) ∙ high-run test high (chars bs) in
    let size : n ≡ length (encodes run) = e ∙ (run-length test bs ∙ ap length bytes) in
    subst (λ k. Cut bs k run rest) (sym size) (cut bs run rest u (runs test (chars bs)).joins)

-- ---- a front that is looked for

swap-same : (a b : ℕ) → (a == b) ≡ (b == a)
swap-same a b = grind (arith, nat_tests)

pub front-start : (ds cs : Text) → starts_with (λ a b. a == b) cs ds ≡ has_front ds cs
front-start [] cs = refl
front-start (d ∷ ds) [] = refl
front-start (d ∷ ds) (c ∷ cs) = ap (λ b. (d == c) && b) (front-start ds cs) ∙ ap (λ b. b && has_front ds cs) (swap-same d c)

-- what is in front is so long, and joins to the rest
pub record Starts (ds cs : Text) : Type 0 where
  pub within : length ds ≤ length cs
  pub front : take (length ds) cs ≡ ds
  pub joins : cs ≡ ds ++ drop (length ds) cs

pub front-joins : (ds cs : Text) → has_front ds cs ≡ true → Starts ds cs
front-joins [] cs t = record { within = omega arith; front = refl; joins = refl }
front-joins (d ∷ ds) [] t = cc
front-joins (d ∷ ds) (c ∷ cs) t =
    let here : c ≡ d = eqb-true c d (and-left (c == d) (has_front ds cs) t) in
    let more : Starts ds cs = front-joins ds cs (and-right (c == d) (has_front ds cs) t) in
    record {
      within = omega (arith, more.within);
      front = ap (λ l. c ∷ l) more.front ∙ ap (λ x. x ∷ ds) here;
      joins = ap (λ l. c ∷ l) more.joins ∙ ap (λ x. x ∷ (ds ++ drop (length ds) cs)) here;
    }

are-ascii : (ds : Text) → AreAscii ds → IsAscii ds
are-ascii [] a = IsAscii-nil
are-ascii (d ∷ ds) a = IsAscii-cons d ds a.0 (are-ascii ds a.1)

pub bytes-front : (ds bs : List ℕ) → IsUtf8 bs → AreAscii ds → has_front ds bs ≡ has_front ds (chars bs)
bytes-front ds bs u a = ap (has_front ds) (sym (encodes-chars bs u)) ∙ front-bytes ds (chars bs) a

pub front-ascii : (ds bs : List ℕ) → AreAscii ds → has_front ds bs ≡ true → IsAscii (take (length ds) bs)
front-ascii ds bs a t = subst (λ l. IsAscii l) (sym (front-joins ds bs t).front) (are-ascii ds a)

-- ---- the rest of a text

pub empty-chars : (bs : List ℕ) → length bs ≡ 0 → chars bs ≡ []
empty-chars [] e = chars-nil
empty-chars (b ∷ bs) e = absurd (omega (arith, e))

-- a text ends with another, by its code points and by its bytes
pub record RestCut (bs rs : List ℕ) : Type 0 where
  pub within : length rs ≤ length bs
  pub cut : Cut bs (length bs - length rs) (front_of (chars bs) (chars rs)) (chars rs)

pub rest-cut : (bs rs : List ℕ) → IsUtf8 bs → IsUtf8 rs → IsRest (chars bs) (chars rs) → RestCut bs rs
rest-cut bs rs u v is =
    let xs : Text = front_of (chars bs) (chars rs) in
    let ys : Text = chars rs in
    let k : ℕ = length (chars bs) - length ys in
    let joins : xs ++ ys ≡ chars bs = ap (λ l. xs ++ l) is ∙ take-append-drop k (chars bs) in
    let bytes : bs ≡ encodes xs ++ rs = sym (encodes-chars bs u) ∙ (ap encodes (sym joins) ∙ (encodes-append xs ys ∙ ap (λ l. encodes xs ++ l) (encodes-chars rs v))) in
    let size : length bs ≡ length (encodes xs) + length rs = ap length bytes ∙ length-append (encodes xs) rs in
    let front : length (encodes xs) ≡ length bs - length rs = omega (arith, size) in
    record {
      within = omega (arith, size);
      cut = subst (λ n. Cut bs n xs ys) front (cut bs xs ys u joins);
    }
