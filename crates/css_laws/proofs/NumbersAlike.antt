-- Numbers, percentages and dimensions of one spelling.
use Rattle.std.proofs.Common.{◌≡◌, ◌∙◌, sym, ap, refl, subst, ℕ, ◌≤◌, ◌==◌, List, [], ◌∷◌, ◌++◌, length, true, false, ◌&&◌, arith}
use Rattle.std.proofs.lemmas.Bool.{true≢false, false≢true, cond_both}
use Rattle.std.proofs.lemmas.List.{append-nil}
use Rattle.std.specs.Prelude.{codes, if◌then◌else◌}
use Rattle.css_model.specs.Classes.{Text, is_empty, has_front}
use Rattle.css_model.specs.declared.token.Number.{Number as NumberValue}
use Rattle.css_model.specs.declared.token.TokenType.{TokenType}
use Rattle.css_model.specs.declared.token.TokenType.TheVariants.{Number, Percentage, Dimension}
use Rattle.css_model.specs.declared.place.Place.TheVariants.{InName}
use Rattle.css_model.specs.Parts.{Part, parts_text, meanings, would_start_ident}
use Rattle.css_model.specs.Numerals.{Numeral, numeral_text, number_of}
use Rattle.css_model.specs.Spellings.{IsName, IsNumber, IsDimension}
use Rattle.css_model.specs.TokenList.{Piece, token}
use Rattle.css_model.specs.inner.Fronts.{parts_in, would_start_number, numeral_in}
use Rattle.css_model.specs.inner.Pieces.{numeric_of_parts, consume_numeric, other_piece}
use Rattle.css_model.proofs.Tests.{pick-true}
use Rattle.css_model.proofs.Demands.{name-demands}
use Rattle.css_model.proofs.FirstComments.{and-zero}
use Rattle.css_model.proofs.FirstNames.{some-text}
use Rattle.css_model.proofs.NumberBounds.{numeral-is, IsOther}
use Rattle.css_model.proofs.NumberPieces.{behind_numeral, behind-is, number-char, percent-no_name}
use Rattle.css_model.proofs.Units.{ident-other}
use Rattle.css_laws.proofs.Branches.{first_of, past-comment}
use Rattle.css_laws.proofs.Meets.{Meets, meet, name-same}

-- ---- the number in front

-- the spelling is the number that is computed of it, and this after it
record Split (w : Numeral) (tail s : Text) : Type 0 where
  is : numeral_in s ≡ w
  behind : behind_numeral s ≡ tail

split : (w : Numeral) (tail s : Text) → s ≡ numeral_text w ++ tail → numeral_in (numeral_text w ++ tail) ≡ w
    → Split w tail s
split w tail s e i =
    let is : numeral_in s ≡ w = ap numeral_in e ∙ i in
    record { is = is; behind = behind-is w tail s (sym e) is }

split-number : (n : NumberValue) (s : Text) → (h : IsNumber n [] s) → Split h.numeral [] s
split-number n s h =
    split h.numeral [] s h.spelling
    (numeral-is h.numeral [] h.is_numeral (refl, refl) (and-zero (is_empty h.numeral.exponent)))

split-percentage : (n : NumberValue) (s : Text) → (h : IsNumber n (codes "%") s)
    → Split h.numeral (codes "%") s
split-percentage n s h =
    split h.numeral (codes "%") s h.spelling
    (numeral-is h.numeral (codes "%") h.is_numeral (refl, refl) (and-zero (is_empty h.numeral.exponent)))

unit-other : (unit tail rest : Text) → IsName unit true tail rest → IsOther tail
unit-other unit tail rest i =
    subst IsOther (append-nil (parts_text i.parts) ∙ sym i.spelling) (ident-other i.parts [] i.identifier)

split-dimension : (n : NumberValue) (unit s rest : Text) → (h : IsDimension n unit s rest)
    → Split h.numeral h.tail s
split-dimension n unit s rest h =
    split h.numeral h.tail s h.spelling
    (numeral-is h.numeral h.tail h.is_numeral (unit-other unit h.tail rest h.is_unit) h.longest_number)

-- the number is the same
value-same : (m n : NumberValue) (v w : Numeral) (s t u : Text) → m ≡ number_of v → n ≡ number_of w
    → Split v t s → Split w u s → m ≡ n
value-same m n v w s t u a b h k = a ∙ (ap number_of (sym h.is ∙ k.is) ∙ sym b)

-- and so is what is after it
tail-same : (v w : Numeral) (s t u : Text) → Split v t s → Split w u s → t ≡ u
tail-same v w s t u h k = sym h.behind ∙ k.behind

-- ---- two of one spelling

unit-some : (unit tail rest : Text) → IsName unit true tail rest → [] ≡ tail → ⊥
unit-some unit tail rest i e =
    let some : 1 ≤ length (parts_text i.parts) = some-text i.parts i.identifier in
    let none : length (parts_text i.parts) ≡ 0 = ap length (sym (e ∙ i.spelling)) in
    absurd (omega (arith, some, none))

unit-no_percent : (unit tail rest : Text) → IsName unit true tail rest → codes "%" ≡ tail → ⊥
unit-no_percent unit tail rest i e =
    true≢false (sym (name-demands unit tail rest i)
    ∙ percent-no_name (tail ++ rest) rest (ap (λ xs. xs ++ rest) (sym e)))

number-no_percentage : (m n : NumberValue) (s : Text) → IsNumber m [] s → IsNumber n (codes "%") s → ⊥
number-no_percentage m n s h k =
    true≢false (ap is_empty
    (tail-same h.numeral k.numeral s [] (codes "%") (split-number m s h) (split-percentage n s k)))

number-no_dimension : (m n : NumberValue) (unit s rest : Text) → IsNumber m [] s → IsDimension n unit s rest
    → ⊥
number-no_dimension m n unit s rest h k =
    unit-some unit k.tail rest k.is_unit
    (tail-same h.numeral k.numeral s [] k.tail (split-number m s h) (split-dimension n unit s rest k))

percentage-no_dimension : (m n : NumberValue) (unit s rest : Text) → IsNumber m (codes "%") s
    → IsDimension n unit s rest → ⊥
percentage-no_dimension m n unit s rest h k =
    unit-no_percent unit k.tail rest k.is_unit
    (tail-same h.numeral k.numeral s (codes "%") k.tail (split-percentage m s h)
    (split-dimension n unit s rest k))

dimension-same : (m n : NumberValue) (a b s rest : Text) → IsDimension m a s rest → IsDimension n b s rest
    → Dimension m a ≡ Dimension n b
dimension-same m n a b s rest h k =
    let mine : Split h.numeral h.tail s = split-dimension m a s rest h in
    let theirs : Split k.numeral k.tail s = split-dimension n b s rest k in
    let value : m ≡ n = value-same m n h.numeral k.numeral s h.tail k.tail h.value k.value mine theirs in
    let tail : h.tail ≡ k.tail = tail-same h.numeral k.numeral s h.tail k.tail mine theirs in
    let unit : a ≡ b =
    (name-same a b true true h.tail rest h.is_unit
    (subst (λ x. IsName b true x rest) (sym tail) k.is_unit)).0 in
    λ i. Dimension (value i) (unit i)

-- ---- each of them against all

-- a piece that begins with a number and is spelled so is of this type
pub record NumbersAre (token_type : TokenType) (s rest : Text) : Type 0 where
  pub as_number : (n : NumberValue) → IsNumber n [] s → token_type ≡ Number n
  pub as_percentage : (n : NumberValue) → IsNumber n (codes "%") s → token_type ≡ Percentage n
  pub as_dimension : (n : NumberValue) (unit : Text) → IsDimension n unit s rest
      → token_type ≡ Dimension n unit

pub number-are : (n : NumberValue) (s rest : Text) → IsNumber n [] s → NumbersAre (Number n) s rest
number-are n s rest h = record {
  as_number = λ m k. ap Number
      (value-same n m h.numeral k.numeral s [] [] h.value k.value (split-number n s h)
      (split-number m s k));
  as_percentage = λ m k. absurd (number-no_percentage n m s h k);
  as_dimension = λ m u k. absurd (number-no_dimension n m u s rest h k);
}

pub percentage-are : (n : NumberValue) (s rest : Text) → IsNumber n (codes "%") s
    → NumbersAre (Percentage n) s rest
percentage-are n s rest h = record {
  as_number = λ m k. absurd (number-no_percentage m n s k h);
  as_percentage = λ m k. ap Percentage
      (value-same n m h.numeral k.numeral s (codes "%") (codes "%") h.value k.value (split-percentage n s h)
      (split-percentage m s k));
  as_dimension = λ m u k. absurd (percentage-no_dimension n m u s rest h k);
}

pub dimension-are : (n : NumberValue) (unit s rest : Text) → IsDimension n unit s rest
    → NumbersAre (Dimension n unit) s rest
dimension-are n unit s rest h = record {
  as_number = λ m k. absurd (number-no_dimension m n unit s rest k h);
  as_percentage = λ m k. absurd (percentage-no_dimension m n unit s rest k h);
  as_dimension = λ m u k. dimension-same n m unit u s rest h k;
}

-- ---- the first piece

number-meets : (token_type : TokenType) (s rest : Text) → NumbersAre token_type s rest
    → (w : Numeral) (unit : List Part) (cs : Text) → Meets token_type s rest (numeric_of_parts w unit cs)
number-meets token_type s rest are w unit cs =
    let as_dimension : Piece =
    token (Dimension (number_of w) (meanings InName unit)) (numeral_text w ++ parts_text unit) in
    let as_percentage : Piece = token (Percentage (number_of w)) (numeral_text w ++ codes "%") in
    let as_number : Piece = token (Number (number_of w)) (numeral_text w ++ []) in
    cond_both (would_start_ident unit) as_dimension
    (if has_front (codes "%") cs then as_percentage else as_number) (Meets token_type s rest)
    (λ t. meet _ _ _ _ _ (are.as_dimension (number_of w) (meanings InName unit)))
    (λ m. cond_both (has_front (codes "%") cs) as_percentage as_number (Meets token_type s rest)
    (λ t. meet _ _ _ _ rest (are.as_percentage (number_of w)))
    (λ n. meet _ _ _ _ rest (are.as_number (number_of w))))

pub numbers-first : (token_type : TokenType) (s rest : Text) → NumbersAre token_type s rest → (cs : Text)
    → would_start_number cs ≡ true → Meets token_type s rest (first_of cs)
numbers-first token_type s rest are [] h = absurd (false≢true h)
numbers-first token_type s rest are (c ∷ cs) h =
    let no : (d : ℕ) → would_start_number (d ∷ cs) ≡ false
    → c == d ≡ false = λ d f. number-char c d cs h f in
    let left : Text = behind_numeral (c ∷ cs) in
    subst (Meets token_type s rest)
    (sym (past-comment c cs (rw (no 10 refl) (rw (no 9 refl) (no 32 refl))) (rw (no 34 refl) (no 39 refl))
    (ap (λ b. b && has_front (codes "*") cs) (no 47 refl))
    ∙ pick-true (would_start_number (c ∷ cs)) (consume_numeric (numeral_in (c ∷ cs)) left)
    (other_piece (parts_in InName (c ∷ cs)) c cs) h))
    (number-meets token_type s rest are (numeral_in (c ∷ cs)) (parts_in InName left) left)
