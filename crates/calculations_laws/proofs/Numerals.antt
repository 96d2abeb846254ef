-- A number of at most 64 digits is read back from its text, also where more follows.
use Rattle.std.proofs.Common.{◌≡◌, ◌∙◌, refl, ap, ℕ, suc, ◌<◌, ◌≤◌, ◌^◌, ◌==◌, ◌≢◌, ◌&&◌, ◌||◌, List, [], ◌∷◌, ◌++◌, get_or, Bool, true, false, if◌then◌else◌, arith, nat_lt}
use Rattle.std.specs.Prelude.{ℤ, pos, negsuc, neg_ℤ, int_le}
use Rattle.std.specs.Fmt.{decimal, signed_decimal}
use Rattle.std.specs.Int.{IsInRange}
use Rattle.std.specs.List.{list_all}
use Rattle.std.specs.Str.Parse.{AllDigits, digits_value}
use Rattle.std.proofs.lemmas.Bool.{and_parts, and_from, leb-true, ne_eqb, false≢true}
use Rattle.std.proofs.lemmas.Fmt.{decimal_is_IsNumeral_wide}
use Rattle.std.proofs.lemmas.Str.Parse.{digit_at}
use Rattle.units64.specs.declared.constants.TheConstants.{MAX_UNITS}
use Rattle.calculations_laws.specs.ComputedLengths.{is_units_from}
use Rattle.calculations_laws.specs.LengthTexts.{IsShort}

-- the number that a text with or without a minus sign is
abbrev pub signed_value : List ℕ → ℤ
signed_value [] = pos 0
signed_value (c ∷ cs) =
    if c == 45 then neg_ℤ (pos (digits_value 10 cs)) else pos (digits_value 10 (c ∷ cs))

unsigned-value : (ds : List ℕ) → get_or ds 0 0 ≢ 45 → signed_value ds ≡ pos (digits_value 10 ds)
unsigned-value [] h = refl
unsigned-value (c ∷ cs) h = rw (ne_eqb c 45 h) refl

-- the first digit
pub first-digit : (n : ℕ) → n < 10 ^ 64 → IsInRange 48 57 (get_or (decimal n) 0 0)
first-digit n h = let d = (decimal_is_IsNumeral_wide n h).0 in digit_at (decimal n) 0 d.1 d.0

pub value-signed : (z : ℤ) → IsShort z → signed_value (signed_decimal z) ≡ z
value-signed (pos n) h =
    let d = first-digit n h in
    let no_sign : get_or (decimal n) 0 0 ≢ 45 = λ e. absurd (omega (arith, d.0, e)) in
    unsigned-value (decimal n) no_sign ∙ ap (λ m. pos m) (decimal_is_IsNumeral_wide n h).1
value-signed (negsuc n) h = ap (λ m. neg_ℤ (pos m)) (decimal_is_IsNumeral_wide (suc n) h).1

-- the first code point of a numeral is a digit or a minus sign
pub numeral-first : (z : ℤ) → IsShort z
    → (40 ≤ get_or (signed_decimal z) 0 0) × (get_or (signed_decimal z) 0 0 < 58)
numeral-first (pos n) h = let d = first-digit n h in (omega (arith, d.0), omega (arith, d.1))
numeral-first (negsuc n) h = (omega arith, omega arith)

-- a number within short bounds is short
pub short-between : (z least greatest : ℤ) → IsShort least
    → IsShort greatest → int_le least z ≡ true → int_le z greatest ≡ true
    → IsShort z
short-between (pos m) least (pos g) hl hg low high = omega (arith, leb-true m g high)
short-between (pos m) least (negsuc g) hl hg low high = absurd (false≢true high)
short-between (negsuc m) (pos l) greatest hl hg low high = absurd (false≢true low)
short-between (negsuc m) (negsuc l) greatest hl hg low high = omega (arith, leb-true m l low)

pub short-units : (least n : ℤ) → IsShort least → is_units_from least n ≡ true → IsShort n
short-units least n short h =
    let both = and_parts (int_le least n) (int_le n MAX_UNITS) h in
    short-between n least MAX_UNITS short (omega arith) both.0 both.1

-- ---- a number in front of a text

-- what stands in a numeral: a minus sign or a digit
abbrev pub in_number : ℕ → Bool
in_number c = c == 45 || (nat_lt 47 c && nat_lt c 58)

-- the numeral in front
abbrev pub number_part : List ℕ → List ℕ
number_part [] = []
number_part (c ∷ cs) = if in_number c then c ∷ number_part cs else []

-- what follows it
abbrev pub past_number : List ℕ → List ℕ
past_number [] = []
past_number (c ∷ cs) = if in_number c then past_number cs else c ∷ cs

-- no numeral goes on here
abbrev pub Ends : List ℕ → Type 0
Ends s = in_number (get_or s 0 0) ≡ false

end-part : (s : List ℕ) → Ends s → number_part s ≡ []
end-part [] e = refl
end-part (c ∷ s) e = rw e refl

end-past : (s : List ℕ) → Ends s → past_number s ≡ s
end-past [] e = refl
end-past (c ∷ s) e = rw e refl

pub part-is : (ds s : List ℕ) → list_all in_number ds ≡ true → Ends s → number_part (ds ++ s) ≡ ds
part-is [] s h e = end-part s e
part-is (d ∷ ds) s h e =
    let both = and_parts (in_number d) (list_all in_number ds) h in
    rw both.0 (ap (λ r. d ∷ r) (part-is ds s both.1 e))

pub past-is : (ds s : List ℕ) → list_all in_number ds ≡ true → Ends s → past_number (ds ++ s) ≡ s
past-is [] s h e = end-past s e
past-is (d ∷ ds) s h e =
    let both = and_parts (in_number d) (list_all in_number ds) h in
    rw both.0 (past-is ds s both.1 e)

in-range : (c : ℕ) → 48 ≤ c → c < 58 → in_number c ≡ true
in-range c low high = grind arith

digits-all : (ds : List ℕ) → AllDigits 10 ds → list_all in_number ds ≡ true
digits-all [] h = refl
digits-all (d ∷ ds) h =
    let r = digit_at (d ∷ ds) 0 h (omega arith) in
    and_from (in_number d) (list_all in_number ds) (in-range d (omega (arith, r.0)) (omega (arith, r.1)))
    (digits-all ds h.1)

decimal-all : (n : ℕ) → n < 10 ^ 64 → list_all in_number (decimal n) ≡ true
decimal-all n h = digits-all (decimal n) (decimal_is_IsNumeral_wide n h).0.1

pub signed-all : (z : ℤ) → IsShort z → list_all in_number (signed_decimal z) ≡ true
signed-all (pos n) h = decimal-all n h
signed-all (negsuc n) h = decimal-all (suc n) h
