-- The pieces and the tokens of a text, found by the standard's algorithm (CSS Syntax 3, section
-- 4.3). What they are is said in TokenList, and contracts cite that.
use Rattle.std.specs.Prelude.{ℕ, zero, suc, pred, ◌==◌, ◌&&◌, ◌||◌, not, List, [], ◌∷◌, ◌++◌, length, drop, map, codes, if◌then◌else◌}
use Rattle.std.specs.Option.{unwrap_or}
use Rattle.css_model.specs.declared.place.Place.TheVariants.{InName, InString, InUrl, InBadUrl}
use Rattle.css_model.specs.declared.token.Token.{Token}
use Rattle.css_model.specs.declared.token.TokenType.{TokenType}
use Rattle.css_model.specs.declared.token.TokenType.TheVariants.{Ident, Function, AtKeyword, Hash, String, BadString, Url, BadUrl, Delim, Number, Percentage, Dimension, Whitespace, Cdo, Cdc}
use Rattle.css_model.specs.Classes.{Text, number_sign, commercial_at, open_round, is_close_round, is_whitespace, is_quote, begins, is_empty, has_front}
use Rattle.css_model.specs.Preprocessing.{preprocessed}
use Rattle.css_model.specs.Parts.{Part, parts_text, meanings, would_start_ident}
use Rattle.css_model.specs.Numerals.{Numeral, numeral_text, number_of}
use Rattle.css_model.specs.Spellings.{quote_follows, is_url_name, single_of}
use Rattle.css_model.specs.TokenList.{Piece, comment, token, piece_text, tokens_from}
use Rattle.css_model.specs.inner.Fronts.{one_in, run_in, parts_in, after_parts, would_start_number, numeral_in}

-- ---- comments (4.3.2)

-- the text up to its first `*/`
abbrev pub comment_inside : Text → Text
comment_inside [] = []
comment_inside (c ∷ cs) = if has_front (codes "*/") (c ∷ cs) then [] else c ∷ comment_inside cs

-- `*/`, if anything is left
abbrev pub comment_end : Text → Text
comment_end [] = []
comment_end (c ∷ cs) = codes "*/"

-- the comment after whose `/*` the text begins
abbrev pub consume_comment : Text → Piece
consume_comment cs =
    comment (codes "/*" ++ (comment_inside cs ++ comment_end (drop (length (comment_inside cs)) cs)))

-- ---- strings (4.3.5)

-- the string of this quote and these parts, before this text
abbrev pub string_of_parts : ℕ → List Part → Text → Piece
string_of_parts quote parts [] =
    token (String (meanings (InString quote) parts)) (quote ∷ (parts_text parts ++ []))
string_of_parts quote parts (c ∷ cs) =
    if c == quote
    then token (String (meanings (InString quote) parts)) (quote ∷ (parts_text parts ++ (quote ∷ [])))
    else token BadString (quote ∷ parts_text parts)

-- the string after whose quote the text begins
abbrev pub consume_string : ℕ → Text → Piece
consume_string quote cs =
    string_of_parts quote (parts_in (InString quote) cs) (after_parts (parts_in (InString quote) cs) cs)

-- ---- urls (4.3.6, 4.3.14)

-- the bad url that begins with this head, where the text is what is after it
abbrev pub consume_bad_url_remnants : Text → Text → Piece
consume_bad_url_remnants head cs =
    token BadUrl (head ++ (parts_text (parts_in InBadUrl cs)
    ++ one_in is_close_round (after_parts (parts_in InBadUrl cs) cs)))

-- what is after the head of a url: whitespace, the parts of its value, whitespace, and what is left
pub record UrlParts : Type 0 where
  pub before : Text
  pub parts : List Part
  pub after : Text
  pub left : Text

-- the text after the whitespace in front
abbrev pub after_white : Text → Text
after_white cs = drop (length (run_in is_whitespace cs)) cs

-- the text after the parts of a url in front
abbrev pub after_url_parts : Text → Text
after_url_parts cs = after_parts (parts_in InUrl cs) cs

-- the parts of a url after its head
abbrev pub url_parts : Text → UrlParts
url_parts inside = record {
  before = run_in is_whitespace inside;
  parts = parts_in InUrl (after_white inside);
  after = run_in is_whitespace (after_url_parts (after_white inside));
  left = after_white (after_url_parts (after_white inside));
}

-- the url of this head and what is after it, or else a bad url
abbrev pub url_of_parts : Text → Text → UrlParts → Piece
url_of_parts head inside url =
    if is_empty url.left || begins is_close_round url.left
    then token (Url (meanings InUrl url.parts))
    (head ++ (url.before ++ (parts_text url.parts ++ (url.after ++ one_in is_close_round url.left))))
    else consume_bad_url_remnants head inside

-- the url or bad url that begins with this head, where `inside` is what is after it
abbrev pub consume_url : Text → Text → Piece
consume_url head inside = url_of_parts head inside (url_parts inside)

-- ---- identifiers (4.3.4)

-- the token that begins with these parts of a name, where the text is what is after them
abbrev pub consume_ident_like : List Part → Text → Piece
consume_ident_like parts [] = token (Ident (meanings InName parts)) (parts_text parts)
consume_ident_like parts (c ∷ cs) =
    if c == open_round
    then (if is_url_name (meanings InName parts) && not (quote_follows cs)
    then consume_url (parts_text parts ++ codes "(") cs
    else token (Function (meanings InName parts)) (parts_text parts ++ codes "("))
    else token (Ident (meanings InName parts)) (parts_text parts)

-- ---- numbers (4.3.3)

-- the number, percentage or dimension of this number and these parts of a name after it
abbrev pub numeric_of_parts : Numeral → List Part → Text → Piece
numeric_of_parts w unit cs =
    if would_start_ident unit
    then token (Dimension (number_of w) (meanings InName unit)) (numeral_text w ++ parts_text unit)
    else (if has_front (codes "%") cs
    then token (Percentage (number_of w)) (numeral_text w ++ codes "%")
    else token (Number (number_of w)) (numeral_text w ++ []))

-- the number, percentage or dimension of this number, where the text is what is after it
abbrev pub consume_numeric : Numeral → Text → Piece
consume_numeric w cs = numeric_of_parts w (parts_in InName cs) cs

-- ---- single code points

-- the type of a single code point
abbrev pub single_type : ℕ → TokenType
single_type c = unwrap_or (single_of c) (Delim c)

-- the piece of a single code point
abbrev pub single_piece : ℕ → Piece
single_piece c = token (single_type c) (c ∷ [])

-- ---- the first piece (4.3.1)

-- `#` or `@` with these parts of a name after it, or a single code point
abbrev pub marked_piece : ℕ → List Part → Piece
marked_piece c parts =
    if (c == number_sign) && not (is_empty (parts_text parts))
    then token (Hash (meanings InName parts) (would_start_ident parts)) (codes "#" ++ parts_text parts)
    else (if (c == commercial_at) && would_start_ident parts
    then token (AtKeyword (meanings InName parts)) (codes "@" ++ parts_text parts)
    else single_piece c)

-- the first piece of a text that begins with these parts of a name, and not with whitespace, a
-- quote, a comment or a number
abbrev pub other_piece : List Part → ℕ → Text → Piece
other_piece parts c cs =
    if has_front (codes "-->") (c ∷ cs) then token Cdc (codes "-->")
    else (if would_start_ident parts then consume_ident_like parts (after_parts parts (c ∷ cs))
    else (if has_front (codes "<!--") (c ∷ cs) then token Cdo (codes "<!--")
    else marked_piece c (parts_in InName cs)))

-- the first piece of a text
abbrev pub first_piece : ℕ → Text → Piece
first_piece c cs =
    if is_whitespace c then token Whitespace (run_in is_whitespace (c ∷ cs))
    else (if is_quote c then consume_string c cs
    else (if has_front (codes "/*") (c ∷ cs) then consume_comment (drop 1 cs)
    else (if would_start_number (c ∷ cs)
    then consume_numeric (numeral_in (c ∷ cs)) (drop (length (numeral_text (numeral_in (c ∷ cs)))) (c ∷ cs))
    else other_piece (parts_in InName (c ∷ cs)) c cs)))

-- ---- all pieces, and the tokens

-- the pieces of a text, after n code points that belong to a piece before; so the recursion is over
-- the text
unfoldable pub pieces_after : ℕ → Text → List Piece
pieces_after n [] = []
pieces_after (suc n) (c ∷ cs) = pieces_after n cs
pieces_after zero (c ∷ cs) =
    first_piece c cs ∷ pieces_after (pred (length (piece_text (first_piece c cs)))) cs

-- the pieces of a preprocessed text
abbrev pub pieces : Text → List Piece
pieces cs = pieces_after 0 cs

-- the tokens of a text
abbrev pub tokens : Text → List Token
tokens text = tokens_from 0 (pieces (preprocessed text))

-- the types and values of the tokens of a text
abbrev pub token_types : Text → List TokenType
token_types text = map (λ t. t.token_type) (tokens text)
