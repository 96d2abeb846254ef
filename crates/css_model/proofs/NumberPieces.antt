-- The first piece where a text begins with a number, and the law on all texts.
use Rattle.std.proofs.Common.{◌≡◌, ◌∙◌, sym, ap, refl, subst, ℕ, ◌+◌, ◌≤◌, ◌==◌, List, [], ◌∷◌, ◌++◌, length, drop, Bool, true, false, ◌&&◌, arith, append_assoc, length-append, eqb-true, inl, inr}
use Rattle.std.proofs.lemmas.Bool.{cases_Bool, true≢false, false≢true, cond_both}
use Rattle.std.proofs.Math.Seq.{drop-append_seam}
use Rattle.std.specs.Prelude.{codes, if◌then◌else◌}
use Rattle.css_model.specs.Classes.{Text, is_digit, is_sign, is_e, begins, is_empty, has_front}
use Rattle.css_model.specs.declared.token.TokenType.TheVariants.{Number, Percentage, Dimension}
use Rattle.css_model.specs.declared.place.Place.TheVariants.{InName}
use Rattle.css_model.specs.Parts.{Part, parts_text, meanings, would_start_ident}
use Rattle.css_model.specs.Numerals.{Numeral, fraction_text, numeral_text, IsNumeral, begins_signed_digit, begins_exponent, number_of}
use Rattle.css_model.specs.Spellings.{IsName}
use Rattle.css_model.specs.TokenList.{Piece, token, piece_text, IsPiece, IsTokenList}
use Rattle.css_model.specs.inner.Fronts.{parts_in, after_parts, would_start_number, numeral_in}
use Rattle.css_model.specs.inner.Pieces.{tokens}
use Rattle.css_model.proofs.Tests.{and-left, and-right, both, or-left, or-cases}
use Rattle.css_model.proofs.PartLemmas.{parts_in-stop, Fronts, fronts}
use Rattle.css_model.proofs.Demands.{begins_name, name-demands}
use Rattle.css_model.proofs.Laws.{IsFirst, tokens-are}
use Rattle.css_model.proofs.Longest.{comments, whites, quotes, numbers, names, cdcs, cdos, hashes, ats, Bound, Bounds, longest}
use Rattle.css_model.proofs.FirstComments.{front-is, and-zero}
use Rattle.css_model.proofs.FirstNames.{ident-within}
use Rattle.css_model.proofs.FirstNumbers.{Numbers, numbers-in}
use Rattle.css_model.proofs.NumberBounds.{numeral-is}
use Rattle.css_model.proofs.NumberSizes.{numeral-length, numeral-within, fraction-length, some-length}
use Rattle.css_model.proofs.Units.{number-no_name, unit-split}
use Rattle.css_model.proofs.FirstPieces.{Numbered, NumbersAreFirst, pieces-first}

-- what is after the number in front of a text
abbrev pub behind_numeral : Text → Text
behind_numeral cs = drop (length (numeral_text (numeral_in cs))) cs

-- how long that number is
abbrev size_of_numeral : Text → ℕ
size_of_numeral cs = length (numeral_text (numeral_in cs))

pub behind-is : (w : Numeral) (rest cs : Text) → numeral_text w ++ rest ≡ cs → numeral_in cs ≡ w
    → behind_numeral cs ≡ rest
behind-is w rest cs e is = ap (λ n. drop (length (numeral_text n)) cs) is
    ∙ (ap (drop (length (numeral_text w))) (sym e) ∙ drop-append_seam (numeral_text w) rest)

-- no number, percentage or dimension is longer than k, if those that begin with the number that is
-- computed are not
numbers-bound : (cs : Text) (k : ℕ) → size_of_numeral cs ≤ k
    → ((behind : Text) → behind_numeral cs ≡ codes "%" ++ behind → size_of_numeral cs + 1 ≤ k)
    → ((unit tail behind : Text) → behind_numeral cs ≡ tail ++ behind → IsName unit true tail behind
    → size_of_numeral cs + length tail ≤ k) → Bound numbers cs k
numbers-bound cs k l percent unit = (
  (λ n s behind e i.
      let front : numeral_text i.numeral ++ behind ≡ cs =
      sym (append_assoc (numeral_text i.numeral) [] behind)
      ∙ (ap (λ xs. xs ++ behind) (sym i.spelling) ∙ e) in
      let within : length (numeral_text i.numeral) ≤ length (numeral_text (numeral_in cs)) =
      subst (λ xs. length (numeral_text i.numeral) ≤ length (numeral_text (numeral_in xs))) front
      (numeral-within i.numeral behind i.is_numeral) in
      let mine : length s ≡ length (numeral_text i.numeral) + 0 = ap length i.spelling
      ∙ length-append (numeral_text i.numeral) [] in
      omega (arith, within, mine, l)),
  (λ n s behind e i.
      let front : numeral_text i.numeral ++ (codes "%" ++ behind) ≡ cs =
      sym (append_assoc (numeral_text i.numeral) (codes "%") behind)
      ∙ (ap (λ xs. xs ++ behind) (sym i.spelling) ∙ e) in
      let is : numeral_in cs ≡ i.numeral = ap numeral_in (sym front)
      ∙ numeral-is i.numeral (codes "%" ++ behind) i.is_numeral (refl, refl)
      (and-zero (is_empty i.numeral.exponent)) in
      let all : size_of_numeral cs + 1 ≤ k =
      percent behind (behind-is i.numeral (codes "%" ++ behind) cs front is) in
      let same : length (numeral_text (numeral_in cs)) ≡ length (numeral_text i.numeral) =
      ap (λ w. length (numeral_text w)) is in
      let mine : length s ≡ length (numeral_text i.numeral) + 1 = ap length i.spelling
      ∙ length-append (numeral_text i.numeral) (codes "%") in
      omega (arith, all, same, mine)),
  (λ n u s behind e i.
      let front : numeral_text i.numeral ++ (i.tail ++ behind) ≡ cs =
      sym (append_assoc (numeral_text i.numeral) i.tail behind)
      ∙ (ap (λ xs. xs ++ behind) (sym i.spelling) ∙ e) in
      let mine : length s ≡ length (numeral_text i.numeral) + length i.tail = ap length i.spelling
      ∙ length-append (numeral_text i.numeral) i.tail in
      elim (unit-split i.numeral u i.tail behind i.is_numeral i.is_unit i.longest_number) [
        | inl same ↦
            let is : numeral_in cs ≡ i.numeral = ap numeral_in (sym front) ∙ same in
            let all : size_of_numeral cs + length i.tail ≤ k =
            unit u i.tail behind (behind-is i.numeral (i.tail ++ behind) cs front is) i.is_unit in
            let size : length (numeral_text (numeral_in cs)) ≡ length (numeral_text i.numeral) =
            ap (λ w. length (numeral_text w)) is in
            omega (arith, all, size, mine)
        | inr grows ↦
            let more : length (numeral_text i.numeral) + length i.tail
            ≤ length (numeral_text (numeral_in cs)) =
            subst (λ xs. length (numeral_text i.numeral) + length i.tail
            ≤ length (numeral_text (numeral_in xs))) front grows in
            omega (arith, more, mine, l)
      ]),
)

-- ---- other types

pub number-char : (c d : ℕ) (cs : Text) → would_start_number (c ∷ cs) ≡ true
    → would_start_number (d ∷ cs) ≡ false → c == d ≡ false
number-char c d cs h f =
    elim (cases_Bool (c == d)) [
      | inl t ↦
          absurd (true≢false (sym (ap (λ x. would_start_number (x ∷ cs)) (sym (eqb-true c d t)) ∙ h) ∙ f))
      | inr
          n ↦ n
    ]

number-no_cdc : (cs : Text) → would_start_number cs ≡ true → has_front (codes "-->") cs ≡ false
number-no_cdc cs h =
    elim (cases_Bool (has_front (codes "-->") cs)) [
      | inl t ↦
          absurd (true≢false (sym (ap would_start_number (front-is (codes "-->") cs t) ∙ h)))
      | inr f ↦ f
    ]

bounds-numbered : (c : ℕ) (cs : Text) (k : ℕ) → Numbered (c ∷ cs) → Bound numbers (c ∷ cs) k
    → Bounds (c ∷ cs) k
bounds-numbered c cs k o b comments = inl o.comment
bounds-numbered c cs k o b whites = inl o.white
bounds-numbered c cs k o b quotes = inl o.quote
bounds-numbered c cs k o b numbers = inr b
bounds-numbered c cs k o b names = inl (number-no_name (c ∷ cs) o.number)
bounds-numbered c cs k o b cdcs = inl (number-no_cdc (c ∷ cs) o.number)
bounds-numbered c cs k o b cdos =
    inl (ap (λ t. t && has_front (codes "!--") cs) (number-char c 60 cs o.number refl))
bounds-numbered c cs k o b hashes = inl (number-char c 35 cs o.number refl)
bounds-numbered c cs k o b ats = inl (number-char c 64 cs o.number refl)

-- ---- the piece

signed-more : (tl rest : Text) → begins_signed_digit tl ≡ true → begins_signed_digit (tl ++ rest) ≡ true
signed-more [] rest h = absurd (false≢true h)
signed-more (g ∷ []) rest h = elim (or-cases (is_digit g) (is_sign g && false) h) [
  | inl d ↦ or-left (is_digit g) (is_sign g && begins is_digit rest) d
  | inr s ↦ absurd (false≢true (and-right (is_sign g) false s))
]
signed-more (g ∷ y ∷ ys) rest h = h

exponent-more : (tail rest : Text) → begins_exponent tail ≡ true → begins_exponent (tail ++ rest) ≡ true
exponent-more [] rest h = absurd (false≢true h)
exponent-more (c ∷ tl) rest h =
    both (is_e c) (begins_signed_digit (tl ++ rest)) (and-left (is_e c) (begins_signed_digit tl) h)
    (signed-more tl rest (and-right (is_e c) (begins_signed_digit tl) h))

no-exponent-front : (b : Bool) (tail rest : Text) → b && begins_exponent (tail ++ rest) ≡ false
    → b && begins_exponent tail ≡ false
no-exponent-front b tail rest h = elim (cases_Bool (b && begins_exponent tail)) [
  | inr f ↦ f
  | inl t ↦ absurd
      (true≢false (sym
      (both b (begins_exponent (tail ++ rest)) (and-left b (begins_exponent tail) t)
      (exponent-more tail rest (and-right b (begins_exponent tail) t))) ∙ h))
]

some-of : (a b : Text) → is_empty a && is_empty b ≡ false → 1 ≤ length a + length b
some-of [] b h = let l : 1 ≤ length b = some-length b h in omega (arith, l)
some-of (x ∷ a) b h = omega arith

pub numeral-some : (w : Numeral) → IsNumeral w → 1 ≤ length (numeral_text w)
numeral-some w h =
    let l : 1 ≤ length w.integer + length w.fraction = some-of w.integer w.fraction h.some_digit in
    let f : length w.fraction ≤ length (fraction_text w.fraction) = fraction-length w.fraction in
    rw (numeral-length w) (omega (arith, l, f))

pub percent-no_name : (cs behind : Text) → cs ≡ codes "%" ++ behind → begins_name cs ≡ false
percent-no_name cs behind e = ap begins_name e ∙ ap would_start_ident (parts_in-stop InName 37 behind refl)

name-there : (cs unit tail behind : Text) → cs ≡ tail ++ behind → IsName unit true tail behind
    → begins_name cs ≡ true
name-there cs unit tail behind e i = ap begins_name e ∙ name-demands unit tail behind i

-- a first piece that a number begins
number-made : (c : ℕ) (cs tail rest : Text) (p : Piece) → Numbered (c ∷ cs)
    → piece_text p ≡ numeral_text (numeral_in (c ∷ cs)) ++ tail → tail ++ rest ≡ behind_numeral (c ∷ cs)
    → IsPiece p rest
    → ((behind : Text) → behind_numeral (c ∷ cs) ≡ codes "%" ++ behind → 1 ≤ length tail)
    → ((unit t behind : Text) → behind_numeral (c ∷ cs) ≡ t ++ behind → IsName unit true t behind
    → length t ≤ length tail) → IsFirst p (c ∷ cs)
number-made c cs tail rest p o text joins is percent unit =
    let n : Numbers (numeral_in (c ∷ cs)) (c ∷ cs) = numbers-in (c ∷ cs) o.number in
    let w : Text = numeral_text (numeral_in (c ∷ cs)) in
    let left : behind_numeral (c ∷ cs) ≡ n.rest =
    behind-is (numeral_in (c ∷ cs)) n.rest (c ∷ cs) n.joins refl in
    let size : length (piece_text p) ≡ size_of_numeral (c ∷ cs) + length tail = ap length text
    ∙ length-append w tail in
    let one : 1 ≤ size_of_numeral (c ∷ cs) = numeral-some (numeral_in (c ∷ cs)) n.is in
    let some : 1 ≤ length (piece_text p) = omega (arith, size, one) in
    record {
      rest = rest;
      joins = ap (λ xs. xs ++ rest) text
          ∙ (append_assoc w tail rest ∙ (ap (λ xs. w ++ xs) (joins ∙ left) ∙ n.joins));
      some = some;
      is = is;
      longest = longest (c ∷ cs) (length (piece_text p)) some
          (bounds-numbered c cs (length (piece_text p)) o
          (numbers-bound (c ∷ cs) (length (piece_text p)) (omega (arith, size))
          (λ behind e. let l : 1 ≤ length tail = percent behind e in omega (arith, l, size))
          (λ u t behind e i. let l : length t ≤ length tail = unit u t behind e i in
          omega (arith, l, size))));
    }

pub numbers-first : NumbersAreFirst
numbers-first c cs o =
    let w : Numeral = numeral_in (c ∷ cs) in
    let left : Text = behind_numeral (c ∷ cs) in
    let unit : List Part = parts_in InName left in
    let n : Numbers (numeral_in (c ∷ cs)) (c ∷ cs) = numbers-in (c ∷ cs) o.number in
    let f : Fronts InName left = fronts InName left in
    let there : behind_numeral (c ∷ cs) ≡ n.rest =
    behind-is (numeral_in (c ∷ cs)) n.rest (c ∷ cs) n.joins refl in
    let as_dimension : Piece =
    token (Dimension (number_of w) (meanings InName unit)) (numeral_text w ++ parts_text unit) in
    let as_percentage : Piece = token (Percentage (number_of w)) (numeral_text w ++ codes "%") in
    let as_number : Piece = token (Number (number_of w)) (numeral_text w ++ []) in
    let exponent : is_empty w.exponent && begins_exponent (parts_text unit ++ after_parts unit left)
    ≡ false = ap (λ xs. is_empty w.exponent && begins_exponent xs) (f.joins ∙ there) ∙ n.ends in
    cond_both (would_start_ident unit) as_dimension
    (if has_front (codes "%") left then as_percentage else as_number) (λ p. IsFirst p (c ∷ cs))
    (λ t. number-made c cs (parts_text unit) (after_parts unit left) as_dimension o refl f.joins
    (record {
      numeral = w;
      tail = parts_text unit;
      spelling = refl;
      is_numeral = n.is;
      value = refl;
      is_unit = record { parts = unit; spelling = refl; are_parts = f.are; means = refl; identifier = t };
      longest_number =
          no-exponent-front (is_empty w.exponent) (parts_text unit) (after_parts unit left) exponent;
    })
    (λ behind e. absurd (true≢false (sym t ∙ percent-no_name left behind e)))
    (λ u tail behind e i. ident-within u tail behind left (sym e) i))
    (λ m. cond_both (has_front (codes "%") left) as_percentage as_number (λ p. IsFirst p (c ∷ cs))
    (λ t. number-made c cs (codes "%") (drop 1 left) as_percentage o refl (front-is (codes "%") left t)
    (record { numeral = w; spelling = refl; is_numeral = n.is; value = refl })
    (λ behind e. omega arith)
    (λ u tail behind e i. absurd (true≢false (sym (name-there left u tail behind e i) ∙ m))))
    (λ k. number-made c cs [] left as_number o refl refl
    (record { numeral = w; spelling = refl; is_numeral = n.is; value = refl })
    (λ behind e. absurd (true≢false (sym (ap (has_front (codes "%")) e) ∙ k)))
    (λ u tail behind e i. absurd (true≢false (sym (name-there left u tail behind e i) ∙ m)))))

-- ---- the law

-- the computed tokens of a text are its tokens by the definition
pub tokens-are-tokens : (text : Text) → IsTokenList text (tokens text)
tokens-are-tokens text = tokens-are (pieces-first numbers-first) text
