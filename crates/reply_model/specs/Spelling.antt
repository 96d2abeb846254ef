-- How the parts of a reply are spelled.
use Rattle.std.specs.Prelude.{ℕ, ◌+◌, ◌/◌, ◌%◌, ◌==◌, List, [], ◌∷◌, ◌++◌, codes, encode_utf8, flat_map, if◌then◌else◌, nat_lt}
use Rattle.std.specs.Fmt.{decimal}
use Rattle.page_model.specs.Refusals.{cause_number, cause_name}
use Rattle.page_model.specs.Trees.{Text}
use Rattle.page_model.specs.declared.cause.Cause.{Cause}

-- a reply's line ends with a newline
abbrev pub end_line : List ℕ
end_line = 10 ∷ []

-- a field of a line: a space, and then the text
abbrev pub field : List ℕ → List ℕ
field text = 32 ∷ text

-- the line of a request that was carried out
unfoldable pub ok_line : List ℕ
ok_line = codes "ok" ++ end_line

-- the same, with the first new id and the number of new nodes
unfoldable pub ok_nodes_line : ℕ → ℕ → List ℕ
ok_nodes_line first count = codes "ok" ++ (field (decimal first) ++ (field (decimal count) ++ end_line))

-- the line of a refusal with this cause
unfoldable pub error_line : Cause → List ℕ
error_line c = codes "error" ++ (field (decimal (cause_number c)) ++ (field (cause_name c) ++ end_line))

-- ---- quoted strings

-- a digit in lower case, of base 16
abbrev pub hex_digit : ℕ → ℕ
hex_digit n = if nat_lt n 10 then 48 + n else 87 + n

-- a code point in a quoted string: `"` and `\` behind a `\`, U+0000 to U+001F by their number, others in UTF-8
abbrev pub in_quotes : ℕ → List ℕ
in_quotes c =
    if c == 34 then codes "\\\""
    else if c == 92 then codes "\\\\"
    else if nat_lt c 32 then codes "\\u00" ++ (hex_digit (c / 16) ∷ hex_digit (c % 16) ∷ [])
    else encode_utf8 c

-- a text between double quotes
unfoldable pub quoted : Text → List ℕ
quoted text = 34 ∷ (flat_map in_quotes text ++ 34 ∷ [])
