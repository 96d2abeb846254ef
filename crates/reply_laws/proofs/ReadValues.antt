-- A computed value is read back from its text.
use Rattle.std.proofs.Common.{◌≡◌, ◌∙◌, refl, ap, ℕ, ◌<◌, ◌≤◌, ◌^◌, ◌+◌, ◌==◌, ◌&&◌, ◌||◌, List, [], ◌∷◌, get_or, drop, take, length as list_length, Bool, true, false, if◌then◌else◌, codes, nat_lt}
use Rattle.std.specs.Prelude.{ℤ, unsigned_abs, unwrap_or, bytes_eq, find}
use Rattle.std.specs.Fmt.{signed_decimal}
use Rattle.std.specs.List.{list_any}
use Rattle.std.proofs.lemmas.Bool.{le-ltb, lt-ltb, false≢true}
use Rattle.value_model.specs.declared.color.Color.TheVariants.{CurrentColor, Rgba as AnRgba}
use Rattle.value_model.specs.declared.color.Rgba.{Rgba}
use Rattle.value_model.specs.declared.containment.Containment.{Containment}
use Rattle.value_model.specs.declared.keyword.Keyword.{Keyword}
use Rattle.value_model.specs.declared.keyword.Keyword.TheVariants.{Auto, None as NoneKeyword, Block, Inline, InlineBlock, FlowRoot, Thin, Medium, Thick, Hidden, Dotted, Dashed, Solid, Double, Groove, Ridge, Inset, Outset, ContentBox, BorderBox, Normal, Left, Right, Center, Start, End, Nowrap, Visible, Scroll, InlineSize, Size, Collapse, Italic, Oblique, Bold, Underline, Overline, LineThrough}
use Rattle.value_model.specs.Calculations.{ComputedLength, in_units, in_pixels, in_percent, leaf, sum, scaled, divided, smallest, largest}
use Rattle.value_model.specs.Forms.{contained}
use Rattle.value_model.specs.Keywords.{keyword_text}
use Rattle.value_model.specs.Values.{Final, keyword, length, number, color, containment}
use Rattle.reply_model.specs.ValueTexts.{final_text, words_text, containment_words}
use Rattle.calculations_laws.specs.ComputedLengths.{is_mixed}
use Rattle.calculations_laws.specs.LengthTexts.{HasShortLeaves}
use Rattle.calculations_laws.proofs.ReadLengths.{read_length, mixed-read}
use Rattle.calculations_laws.proofs.Numerals.{signed_value, value-signed, numeral-first}
use Rattle.reply_laws.proofs.Quoted.{hex_value, value-hexes}

-- ---- what a text is of

pub data Lead : Type 0 where
  hash : Lead
  numeral : Lead
  after_num : Lead
  current : Lead
  calculated : Lead
  letters : Lead

-- by its first two code points, and whether a round bracket stands in it: `scroll` and `scale(` begin with
-- the same two
abbrev pub lead : ℕ → ℕ → Bool → Lead
lead c d bracket =
    if nat_lt c 40 then hash
    else if nat_lt c 58 then numeral
    else if d == 117 && c == 110 then after_num
    else if d == 117 && c == 99 then current
    else if c == 112 || bracket then calculated
    else letters

abbrev pub has_bracket : List ℕ → Bool
has_bracket text = list_any (λ c. c == 40) text

lead-numeral : (c d : ℕ) (bracket : Bool) → 40 ≤ c → c < 58 → lead c d bracket ≡ numeral
lead-numeral c d bracket low high =
    let above : nat_lt c 40 ≡ false = le-ltb c 40 low in
    let below : nat_lt c 58 ≡ true = lt-ltb c 58 high in
    rw (above, below) refl

-- ---- reading

abbrev pub keywords : List Keyword
keywords =
    Auto ∷ NoneKeyword ∷ Block ∷ Inline ∷ InlineBlock ∷ FlowRoot ∷ Thin ∷ Medium ∷ Thick ∷ Hidden
    ∷ Dotted ∷ Dashed ∷ Solid ∷ Double ∷ Groove ∷ Ridge ∷ Inset ∷ Outset ∷ ContentBox ∷ BorderBox
    ∷ Normal ∷ Left ∷ Right ∷ Center ∷ Start ∷ End ∷ Nowrap ∷ Visible ∷ Scroll ∷ InlineSize ∷ Size
    ∷ Collapse ∷ Italic ∷ Oblique ∷ Bold ∷ Underline ∷ Overline ∷ LineThrough ∷ []

abbrev pub keyword_of : List ℕ → Keyword
keyword_of text = unwrap_or (find (λ k. bytes_eq (keyword_text k) text) keywords) Auto

-- the component at this place
abbrev pub component_at : ℕ → List ℕ → ℕ
component_at i text = hex_value (get_or text i 0) (get_or text (i + 1) 0)

abbrev pub rgba_of : List ℕ → Rgba
rgba_of text = record {
  red = component_at 1 text;
  green = component_at 3 text;
  blue = component_at 5 text;
  alpha = component_at 7 text;
}

-- by its lead; this is what a numeral alone stands for
abbrev pub read_led : (ℤ → Final) → Lead → List ℕ → Final
read_led f hash text = color (AnRgba (rgba_of text))
read_led f numeral text = f (signed_value text)
read_led f after_num text = number (signed_value (drop 4 text))
read_led f current text = color CurrentColor
read_led f calculated text = length (read_length text)
read_led f letters text = keyword (keyword_of text)

abbrev pub read_value : (ℤ → Final) → List ℕ → Final
read_value f text = read_led f (lead (get_or text 0 0) (get_or text 1 0) (has_bracket text)) text

pub read-keyword : (f : ℤ → Final) (k : Keyword) → read_value f (keyword_text k) ≡ keyword k
read-keyword f Auto = refl
read-keyword f NoneKeyword = refl
read-keyword f Block = refl
read-keyword f Inline = refl
read-keyword f InlineBlock = refl
read-keyword f FlowRoot = refl
read-keyword f Thin = refl
read-keyword f Medium = refl
read-keyword f Thick = refl
read-keyword f Hidden = refl
read-keyword f Dotted = refl
read-keyword f Dashed = refl
read-keyword f Solid = refl
read-keyword f Double = refl
read-keyword f Groove = refl
read-keyword f Ridge = refl
read-keyword f Inset = refl
read-keyword f Outset = refl
read-keyword f ContentBox = refl
read-keyword f BorderBox = refl
read-keyword f Normal = refl
read-keyword f Left = refl
read-keyword f Right = refl
read-keyword f Center = refl
read-keyword f Start = refl
read-keyword f End = refl
read-keyword f Nowrap = refl
read-keyword f Visible = refl
read-keyword f Scroll = refl
read-keyword f InlineSize = refl
read-keyword f Size = refl
read-keyword f Collapse = refl
read-keyword f Italic = refl
read-keyword f Oblique = refl
read-keyword f Bold = refl
read-keyword f Underline = refl
read-keyword f Overline = refl
read-keyword f LineThrough = refl

pub read-numeral : (f : ℤ → Final) (z : ℤ) → unsigned_abs z < 10 ^ 64
    → read_value f (signed_decimal z) ≡ f z
read-numeral f z h =
    let first = numeral-first z h in
    let text : List ℕ = signed_decimal z in
    ap (λ l. read_led f l text) (lead-numeral (get_or text 0 0) (get_or text 1 0) (has_bracket text) first.0 first.1)
    ∙ ap f (value-signed z h)

-- a calculation, or a percentage by itself
pub read-calculated : (f : ℤ → Final) (l : ComputedLength) → is_mixed l ≡ true → HasShortLeaves l
    → read_value f (final_text (length l)) ≡ length l
read-calculated f (leaf (in_units n)) m h = absurd (false≢true m)
read-calculated f (leaf (in_pixels n)) m h = absurd (false≢true m)
read-calculated f (leaf (in_percent n)) m h = ap (λ l. length l) (mixed-read (leaf (in_percent n)) m h)
read-calculated f (sum a b) m h = ap (λ l. length l) (mixed-read (sum a b) m h)
read-calculated f (scaled a factor) m h = ap (λ l. length l) (mixed-read (scaled a factor) m h)
read-calculated f (divided a divisor) m h = ap (λ l. length l) (mixed-read (divided a divisor) m h)
read-calculated f (smallest a others) m h = ap (λ l. length l) (mixed-read (smallest a others) m h)
read-calculated f (largest a others) m h = ap (λ l. length l) (mixed-read (largest a others) m h)

pub read-number : (f : ℤ → Final) (z : ℤ) → unsigned_abs z < 10 ^ 64
    → read_value f (final_text (number z)) ≡ number z
read-number f z h = ap (λ n. number n) (value-signed z h)

pub read-current : (f : ℤ → Final) → read_value f (final_text (color CurrentColor)) ≡ color CurrentColor
read-current f = refl

pub read-rgba : (f : ℤ → Final) (c : Rgba) → c.red < 256 → c.green < 256 → c.blue < 256 → c.alpha < 256
    → read_value f (final_text (color (AnRgba c))) ≡ color (AnRgba c)
read-rgba f c r g b a =
    rw (value-hexes c.red r, value-hexes c.green g, value-hexes c.blue b, value-hexes c.alpha a) refl

-- ---- containment

-- a text begins with this word
abbrev pub begins : List ℕ → List ℕ → Bool
begins word text = bytes_eq word (take (list_length word) text)

-- what is left of a text behind the word, if it begins with it, and behind the space
abbrev pub past : List ℕ → List ℕ → List ℕ
past word text = if begins word text then drop (list_length word + 1) text else text

abbrev pub containment_of : List ℕ → Containment
containment_of text =
    let second = past (codes "size") text in
    let third = past (codes "inline-size") second in
    let fourth = past (codes "layout") third in
    let fifth = past (codes "style") fourth in
    contained (begins (codes "size") text) (begins (codes "inline-size") second)
    (begins (codes "layout") third) (begins (codes "style") fourth) (begins (codes "paint") fifth)

read-contained : (size inline_size layout style paint : Bool)
    → containment_of (words_text (containment_words (contained size inline_size layout style paint)))
    ≡ contained size inline_size layout style paint
read-contained true true true true true = refl
read-contained true true true true false = refl
read-contained true true true false true = refl
read-contained true true true false false = refl
read-contained true true false true true = refl
read-contained true true false true false = refl
read-contained true true false false true = refl
read-contained true true false false false = refl
read-contained true false true true true = refl
read-contained true false true true false = refl
read-contained true false true false true = refl
read-contained true false true false false = refl
read-contained true false false true true = refl
read-contained true false false true false = refl
read-contained true false false false true = refl
read-contained true false false false false = refl
read-contained false true true true true = refl
read-contained false true true true false = refl
read-contained false true true false true = refl
read-contained false true true false false = refl
read-contained false true false true true = refl
read-contained false true false true false = refl
read-contained false true false false true = refl
read-contained false true false false false = refl
read-contained false false true true true = refl
read-contained false false true true false = refl
read-contained false false true false true = refl
read-contained false false true false false = refl
read-contained false false false true true = refl
read-contained false false false true false = refl
read-contained false false false false true = refl
read-contained false false false false false = refl

pub read-containment : (c : Containment) → containment_of (final_text (containment c)) ≡ c
read-containment c = read-contained c.size c.inline_size c.layout c.style c.paint
