-- The text of a value has no newline.
use Rattle.std.proofs.Common.{◌≡◌, ◌∙◌, refl, ap, sym, ℕ, zero, suc, ◌≤◌, ◌/◌, ◌%◌, ◌==◌, ◌≢◌, inl, inr, List, [], ◌∷◌, ◌++◌, append-nil, map, get_or, Bool, true, false, not, arith, codes, nat_lt}
use Rattle.std.specs.Prelude.{ℤ, pos, negsuc, encode_utf8, flat_map, ⊤}
use Rattle.std.specs.List.{list_all, join_with_byte}
use Rattle.std.specs.Fmt.{decimal, digits, digits_onto, signed_decimal}
use Rattle.std.proofs.lemmas.Bool.{cases_Bool, ltb-false, ne_eqb, and_from}
use Rattle.std.proofs.lemmas.List.{get_or_default}
use Rattle.std.proofs.lemmas.List.Folds.{list_all-append}
use Rattle.std.proofs.lemmas.List.Sums.{list_all-from_AllPass}
use Rattle.std.proofs.lemmas.Str.{inside_one}
use Rattle.page_model.specs.Trees.{Text}
use Rattle.value_model.specs.declared.color.Color.{Color}
use Rattle.value_model.specs.declared.color.Color.TheVariants.{CurrentColor, Rgba as AnRgba}
use Rattle.value_model.specs.declared.containment.Containment.{Containment}
use Rattle.value_model.specs.declared.keyword.Keyword.{Keyword}
use Rattle.value_model.specs.declared.keyword.Keyword.TheVariants.{Auto, None as NoneKeyword, Block, Inline, InlineBlock, FlowRoot, Thin, Medium, Thick, Hidden, Dotted, Dashed, Solid, Double, Groove, Ridge, Inset, Outset, ContentBox, BorderBox, Normal, Left, Right, Center, Start, End, Nowrap, Visible, Scroll, InlineSize, Size, Collapse, Italic, Oblique, Bold, Underline, Overline, LineThrough}
use Rattle.css_model.specs.Classes.{comma}
use Rattle.value_model.specs.Calculations.{in_units, in_pixels, in_percent, ComputedLeaf, ComputedLength, leaf, sum, scaled, divided, smallest, largest, Calculations, no_calculations, calculation, call_text, length_text, length_texts}
use Rattle.value_model.specs.Keywords.{keyword_text}
use Rattle.value_model.specs.Values.{Final, keyword, length, number, alpha, integer, color, containment, names}
use Rattle.reply_model.specs.Spelling.{field, hex_digit, in_quotes, quoted}
use Rattle.reply_model.specs.ValueTexts.{final_text, component_text, color_text, words_text, word_if, containment_words}

abbrev pub no_newline : List ℕ → Bool
no_newline text = list_all (λ c. not (c == 10)) text

-- ---- lists

after : (c : ℕ) (cs : List ℕ) → c ≢ 10 → no_newline cs ≡ true → no_newline (c ∷ cs) ≡ true
after c cs other h = and_from (not (c == 10)) (no_newline cs) (ap not (ne_eqb c 10 other)) h

both : (xs ys : List ℕ) → no_newline xs ≡ true → no_newline ys ≡ true → no_newline (xs ++ ys) ≡ true
both xs ys h k =
    list_all-append (λ c. not (c == 10)) xs ys ∙ and_from (no_newline xs) (no_newline ys) h k

-- ---- digits

-- a digit of base 10 or 16
not-digit : (d : ℕ) → hex_digit d ≢ 10
not-digit d = elim (cases_Bool (nat_lt d 10)) [
  | inl l ↦ rw l (λ e. absurd (omega (arith, e)))
  | inr nl ↦ rw nl (λ e. absurd (omega (arith, e)))
]

digits-line : (k base n : ℕ) (cs : List ℕ) → no_newline cs ≡ true
    → no_newline (digits_onto k base false n cs) ≡ true
digits-line zero base n cs h = h
digits-line (suc k) base n cs h =
    let more : List ℕ = hex_digit (n % base) ∷ cs in
    let more_line : no_newline more ≡ true = after (hex_digit (n % base)) cs (not-digit (n % base)) h in
    elim (cases_Bool (n / base == 0)) [
      | inl z ↦ rw z more_line
      | inr nz ↦ rw nz (digits-line k base (n / base) more more_line)
    ]

decimal-line : (n : ℕ) → no_newline (decimal n) ≡ true
unfolding digits
decimal-line n = digits-line 64 10 n [] refl

signed-line : (z : ℤ) → no_newline (signed_decimal z) ≡ true
signed-line (pos n) = decimal-line n
signed-line (negsuc n) = decimal-line (suc n)

-- ---- colours

component-line : (n : ℕ) (cs : List ℕ) → no_newline cs ≡ true
    → no_newline (component_text n ++ cs) ≡ true
component-line n cs h =
    after (hex_digit (n / 16)) (hex_digit (n % 16) ∷ cs) (not-digit (n / 16))
    (after (hex_digit (n % 16)) cs (not-digit (n % 16)) h)

color-line : (c : Color) → no_newline (color_text c) ≡ true
color-line CurrentColor = refl
color-line (AnRgba c) =
    let last = component-line c.alpha [] refl in
    let third = component-line c.blue (component_text c.alpha) last in
    let second = component-line c.green (component_text c.blue ++ component_text c.alpha) third in
    component-line c.red (component_text c.green ++ (component_text c.blue ++ component_text c.alpha)) second

-- ---- words

abbrev AreLines : List (List ℕ) → Type 0
AreLines [] = ⊤
AreLines (w ∷ ws) = (no_newline w ≡ true) × AreLines ws

if-lines : (holds : Bool) (word : List ℕ) → no_newline word ≡ true → AreLines (word_if holds word)
if-lines true word h = (h, tt)
if-lines false word h = tt

more-lines : (holds : Bool) (word : List ℕ) (ws : List (List ℕ)) → no_newline word ≡ true → AreLines ws
    → AreLines (word_if holds word ++ ws)
more-lines true word ws h k = (h, k)
more-lines false word ws h k = k

fields-line : (ws : List (List ℕ)) → AreLines ws → no_newline (flat_map field ws) ≡ true
fields-line [] h = refl
fields-line (w ∷ ws) h = both w (flat_map field ws) h.0 (fields-line ws h.1)

words-line : (ws : List (List ℕ)) → AreLines ws → no_newline (words_text ws) ≡ true
words-line [] h = refl
words-line (w ∷ ws) h = both w (flat_map field ws) h.0 (fields-line ws h.1)

containment-lines : (c : Containment) → AreLines (containment_words c)
containment-lines c =
    more-lines c.size (codes "size") _ refl
    (more-lines c.inline_size (codes "inline-size") _ refl
    (more-lines c.layout (codes "layout") _ refl
    (more-lines c.style (codes "style") _ refl (if-lines c.paint (codes "paint") refl))))

-- ---- lengths

joined-line : (ws : List (List ℕ)) → AreLines ws → no_newline (join_with_byte comma ws) ≡ true
joined-line [] h = refl
joined-line (w ∷ []) h = h.0
joined-line (w ∷ v ∷ ws) h =
    both w (comma ∷ join_with_byte comma (v ∷ ws)) h.0 (joined-line (v ∷ ws) h.1)

call-line : (name : List ℕ) (parts : List (List ℕ)) → no_newline name ≡ true → AreLines parts
    → no_newline (call_text name parts) ≡ true
call-line name parts h k =
    both name (40 ∷ (join_with_byte comma parts ++ (41 ∷ []))) h
    (both (join_with_byte comma parts) (41 ∷ []) (joined-line parts k) refl)

mutual
  length-line : (l : ComputedLength) → no_newline (length_text l) ≡ true
  length-line (leaf (in_units n)) = signed-line n
  length-line (leaf (in_pixels n)) = signed-line n
  length-line (leaf (in_percent n)) = signed-line n
  length-line (sum a b) =
      call-line (codes "add") (length_text a ∷ length_text b ∷ []) refl
      (length-line a, (length-line b, tt))
  length-line (scaled a factor) =
      call-line (codes "scale") (length_text a ∷ signed_decimal factor ∷ []) refl
      (length-line a, (signed-line factor, tt))
  length-line (divided a divisor) =
      call-line (codes "over") (length_text a ∷ signed_decimal divisor ∷ []) refl
      (length-line a, (signed-line divisor, tt))
  length-line (smallest a others) =
      call-line (codes "min") (length_text a ∷ length_texts others) refl
      (length-line a, length-lines others)
  length-line (largest a others) =
      call-line (codes "max") (length_text a ∷ length_texts others) refl
      (length-line a, length-lines others)

  length-lines : (others : Calculations ComputedLeaf) → AreLines (length_texts others)
  length-lines no_calculations = tt
  length-lines (calculation a others) = (length-line a, length-lines others)

-- ---- names

encoded-line : (c : ℕ) → 32 ≤ c → no_newline (encode_utf8 c) ≡ true
encoded-line c h =
    let bytes : List ℕ = encode_utf8 c in
    list_all-from_AllPass (λ b. not (b == 10)) bytes (λ k d l. ap not (ne_eqb (get_or bytes k d) 10
    (λ e. let is_ten : get_or bytes k 0 ≡ 10 = get_or_default bytes k 0 d l ∙ e in
    let whole : c ≡ get_or bytes k 0 =
    inside_one c [] bytes k (sym (append-nil bytes)) l (omega (arith, is_ten)) in
    absurd (omega (arith, is_ten, whole)))))

point-line : (c : ℕ) → no_newline (in_quotes c) ≡ true
point-line c = elim (cases_Bool (c == 34)) [
  | inl q ↦ rw q refl
  | inr nq ↦ elim (cases_Bool (c == 92)) [
    | inl b ↦ rw (nq, b) refl
    | inr nb ↦ elim (cases_Bool (nat_lt c 32)) [
      | inl l ↦ rw (nq, nb, l) (component-line c [] refl)
      | inr nl ↦ rw (nq, nb, nl) (encoded-line c (ltb-false c 32 nl))
    ]
  ]
]

points-line : (s : Text) → no_newline (flat_map in_quotes s) ≡ true
points-line [] = refl
points-line (c ∷ s) = both (in_quotes c) (flat_map in_quotes s) (point-line c) (points-line s)

quoted-line : (s : Text) → no_newline (quoted s) ≡ true
unfolding quoted
quoted-line s = both (flat_map in_quotes s) (34 ∷ []) (points-line s) refl

names-lines : (ns : List Text) → AreLines (map quoted ns)
names-lines [] = tt
names-lines (n ∷ ns) = (quoted-line n, names-lines ns)

-- ---- values

keyword-line : (k : Keyword) → no_newline (keyword_text k) ≡ true
keyword-line Auto = refl
keyword-line NoneKeyword = refl
keyword-line Block = refl
keyword-line Inline = refl
keyword-line InlineBlock = refl
keyword-line FlowRoot = refl
keyword-line Thin = refl
keyword-line Medium = refl
keyword-line Thick = refl
keyword-line Hidden = refl
keyword-line Dotted = refl
keyword-line Dashed = refl
keyword-line Solid = refl
keyword-line Double = refl
keyword-line Groove = refl
keyword-line Ridge = refl
keyword-line Inset = refl
keyword-line Outset = refl
keyword-line ContentBox = refl
keyword-line BorderBox = refl
keyword-line Normal = refl
keyword-line Left = refl
keyword-line Right = refl
keyword-line Center = refl
keyword-line Start = refl
keyword-line End = refl
keyword-line Nowrap = refl
keyword-line Visible = refl
keyword-line Scroll = refl
keyword-line InlineSize = refl
keyword-line Size = refl
keyword-line Collapse = refl
keyword-line Italic = refl
keyword-line Oblique = refl
keyword-line Bold = refl
keyword-line Underline = refl
keyword-line Overline = refl
keyword-line LineThrough = refl

pub text-on_one_line : (v : Final) → no_newline (final_text v) ≡ true
text-on_one_line (keyword k) = keyword-line k
text-on_one_line (length l) = length-line l
text-on_one_line (number n) = signed-line n
text-on_one_line (alpha n) = signed-line n
text-on_one_line (integer n) = signed-line n
text-on_one_line (color c) = color-line c
text-on_one_line (containment c) = words-line (containment_words c) (containment-lines c)
text-on_one_line (names ns) = words-line (map quoted ns) (names-lines ns)
