-- How lengths are stored: a calculation as the list of its parts, each in front of what it is made of.
use Rattle.std.specs.Prelude.{◌≡◌, ◌⊎◌, ◌==◌, ℕ, ℤ, pos, if◌then◌else◌, List, [], ◌∷◌, refl}
use Rattle.std.proofs.Common.{◌∙◌, ap, inl, inr}
use Rattle.std.specs.Coded.{Coded, code_by, coded_ℕ, coded_ℤ, coded_list, coded×, coded⊎}
use Rattle.value_model.specs.declared.length_unit.LengthUnit.{LengthUnit}
use Rattle.value_model.specs.declared.length_unit.LengthBase.{LengthBase}
use Rattle.value_model.specs.declared.length_unit.LengthBase.TheVariants.{Pixel, Em, Rem, Vw, Vh, Vmin, Vmax, Cqw, Cqh, Cqmin, Cqmax}
use Rattle.value_model.specs.Calculations.{Calculation, leaf, sum, scaled, divided, smallest, largest, Calculations, no_calculations, calculation}
use Rattle.value_model.specs.Lengths.{Length, dimension, percentage}

-- ---- literals

abbrev pub base_number : LengthBase → ℕ
base_number Pixel = 0
base_number Em = 1
base_number Rem = 2
base_number Vw = 3
base_number Vh = 4
base_number Vmin = 5
base_number Vmax = 6
base_number Cqw = 7
base_number Cqh = 8
base_number Cqmin = 9
base_number Cqmax = 10

abbrev pub base_of_number : ℕ → LengthBase
base_of_number n =
    if n == 0 then Pixel else if n == 1 then Em else if n == 2 then Rem else if n == 3 then Vw
    else if n == 4 then Vh else if n == 5 then Vmin else if n == 6 then Vmax else if n == 7 then Cqw
    else if n == 8 then Cqh else if n == 9 then Cqmin else Cqmax

pub base_of_number-base_number : (b : LengthBase) → base_of_number (base_number b) ≡ b
base_of_number-base_number Pixel = refl
base_of_number-base_number Em = refl
base_of_number-base_number Rem = refl
base_of_number-base_number Vw = refl
base_of_number-base_number Vh = refl
base_of_number-base_number Vmin = refl
base_of_number-base_number Vmax = refl
base_of_number-base_number Cqw = refl
base_of_number-base_number Cqh = refl
base_of_number-base_number Cqmin = refl
base_of_number-base_number Cqmax = refl

abbrev pub coded_base : Coded LengthBase
coded_base = code_by ℕ coded_ℕ base_number base_of_number base_of_number-base_number

abbrev pub coded_unit : Coded LengthUnit
coded_unit =
    code_by (LengthBase × (ℕ × ℕ)) (coded× coded_base (coded× coded_ℕ coded_ℕ))
    (λ u. (u.base, (u.numerator, u.denominator)))
    (λ p. record { base = p.0; numerator = p.1.0; denominator = p.1.1 }) (λ _. refl)

abbrev pub literal_parts : Length → (ℤ × LengthUnit) ⊎ ℤ
literal_parts (dimension millionths u) = inl (millionths, u)
literal_parts (percentage millionths) = inr millionths

abbrev pub literal_of_parts : (ℤ × LengthUnit) ⊎ ℤ → Length
literal_of_parts (inl d) = dimension d.0 d.1
literal_of_parts (inr millionths) = percentage millionths

pub literal_of_parts-literal_parts : (l : Length) → literal_of_parts (literal_parts l) ≡ l
literal_of_parts-literal_parts (dimension millionths u) = refl
literal_of_parts-literal_parts (percentage millionths) = refl

abbrev pub coded_literal : Coded Length
coded_literal =
    code_by ((ℤ × LengthUnit) ⊎ ℤ) (coded⊎ (coded× coded_ℤ coded_unit) coded_ℤ) literal_parts
    literal_of_parts literal_of_parts-literal_parts

-- ---- calculations

-- a leaf, or the number of a kind of part and its own number
abbrev pub Part : Type 0 → Type 0
Part L = L ⊎ (ℕ × ℤ)

-- the parts of a calculation, and then more
abbrev mutual
  pub parts : {L : Type 0} → Calculation L → List (Part L) → List (Part L)
  parts (leaf l) more = inl l ∷ more
  parts (sum a b) more = inr (0, pos 0) ∷ parts a (parts b more)
  parts (scaled a factor) more = inr (1, factor) ∷ parts a more
  parts (divided a divisor) more = inr (2, divisor) ∷ parts a more
  parts (smallest a others) more = inr (3, pos 0) ∷ parts a (all_parts others more)
  parts (largest a others) more = inr (4, pos 0) ∷ parts a (all_parts others more)

  pub all_parts : {L : Type 0} → Calculations L → List (Part L) → List (Part L)
  all_parts no_calculations more = inr (5, pos 0) ∷ more
  all_parts (calculation a others) more = inr (6, pos 0) ∷ parts a (all_parts others more)

-- one calculation on a stack
abbrev pub alone : {L : Type 0} → Calculation L → Calculations L
alone a = calculation a no_calculations

abbrev pub in_front : {L : Type 0} → Calculation L → List (Calculations L) → List (Calculations L)
in_front a more = alone a ∷ more

-- what is made of the first one on a stack
abbrev pub of_first : {L : Type 0} → (Calculation L → Calculation L) → List (Calculations L) → List (Calculations L)
of_first f (calculation a ls ∷ more) = alone (f a) ∷ more
of_first f more = more

-- what is made of the first two
abbrev pub of_both : {L : Type 0} → (Calculation L → Calculation L → Calculation L)
    → List (Calculations L) → List (Calculations L)
of_both f (calculation a ls ∷ calculation b ms ∷ more) = alone (f a b) ∷ more
of_both f more = more

-- what is made of the first one and a list
abbrev pub of_all : {L : Type 0} → (Calculation L → Calculations L → Calculations L)
    → List (Calculations L) → List (Calculations L)
of_all f (calculation a ls ∷ others ∷ more) = f a others ∷ more
of_all f more = more

abbrev pub joined_by : {L : Type 0} → ℕ → ℤ → List (Calculations L) → List (Calculations L)
joined_by k n more =
    if k == 0 then of_both sum more
    else if k == 1 then of_first (λ a. scaled a n) more
    else if k == 2 then of_first (λ a. divided a n) more
    else if k == 3 then of_all (λ a others. alone (smallest a others)) more
    else if k == 4 then of_all (λ a others. alone (largest a others)) more
    else if k == 5 then no_calculations ∷ more
    else of_all calculation more

abbrev pub joined : {L : Type 0} → Part L → List (Calculations L) → List (Calculations L)
joined (inl l) more = alone (leaf l) ∷ more
joined (inr part) more = joined_by part.0 part.1 more

-- read from the right onto a stack
abbrev pub read_parts : {L : Type 0} → List (Part L) → List (Calculations L)
read_parts [] = []
read_parts (part ∷ more) = joined part (read_parts more)

abbrev pub first_of : {L : Type 0} → Calculation L → List (Calculations L) → Calculation L
first_of default (calculation a ls ∷ more) = a
first_of default other = default

mutual
  pub read_parts-parts : {L : Type 0} (a : Calculation L) (more : List (Part L))
      → read_parts (parts a more) ≡ alone a ∷ read_parts more
  read_parts-parts (leaf l) more = refl
  read_parts-parts (sum a b) more =
      ap (of_both sum) (read_parts-parts a (parts b more) ∙ ap
      (in_front a) (read_parts-parts b more))
  read_parts-parts (scaled a factor) more = ap (of_first (λ a. scaled a factor)) (read_parts-parts a more)
  read_parts-parts (divided a divisor) more = ap (of_first (λ a. divided a divisor)) (read_parts-parts a more)
  read_parts-parts (smallest a others) more =
      ap (of_all (λ a others. alone (smallest a others))) (read_parts-parts a (all_parts others more) ∙ ap
      (in_front a) (read_parts-all_parts others more))
  read_parts-parts (largest a others) more =
      ap (of_all (λ a others. alone (largest a others))) (read_parts-parts a (all_parts others more) ∙ ap
      (in_front a) (read_parts-all_parts others more))

  pub read_parts-all_parts : {L : Type 0} (ls : Calculations L) (more : List (Part L))
      → read_parts (all_parts ls more) ≡ ls ∷ read_parts more
  read_parts-all_parts no_calculations more = refl
  read_parts-all_parts (calculation a others) more =
      ap (of_all calculation) (read_parts-parts a (all_parts others more) ∙ ap
      (in_front a) (read_parts-all_parts others more))

-- a length of nothing
abbrev pub no_length : Calculation Length
no_length = leaf (percentage (pos 0))

abbrev pub coded_length : Coded (Calculation Length)
coded_length =
    code_by (List (Part Length)) (coded_list (coded⊎ coded_literal (coded× coded_ℕ coded_ℤ)))
    (λ a. parts a []) (λ ps. first_of no_length (read_parts ps))
    (λ a. ap (first_of no_length) (read_parts-parts a []))
