-- The request that a line stands for.
use Rattle.std.specs.Prelude.{ℕ, ◌+◌, ◌==◌, List, [], ◌∷◌, Bool, if◌then◌else◌, Option, Some, None, is_some, option_and_then, option_map, codes}
use Rattle.std.specs.List.{list_any}
use Rattle.std.specs.Option.{option_map_or}
use Rattle.std.specs.Str.{chars, is_utf8, bytes_eq}
use Rattle.serde_json.specs.Data.{Data, null, string, Items, no_items, item, Members, no_members, member}
use Rattle.serde_json.specs.Read.{read}
use Rattle.serde_json.specs.Find.{get, as_number, as_u64, as_str, as_array, as_object}
use Rattle.stream_model.specs.Lines.{is_blank, is_too_long}
use Rattle.page_model.specs.Trees.{Text, Tree}
use Rattle.page_model.specs.Jsonml.{doc_of, tree_of}
use Rattle.page_model.specs.declared.cause.Cause.{Cause}
use Rattle.page_model.specs.declared.cause.Cause.TheVariants.{BadJson, BadRequest, LineTooLong, NotBuilt}
use Rattle.request_model.specs.declared.query.Query.{Query}
use Rattle.request_model.specs.declared.query.Query.TheVariants.{Dump, Match, Rules, Style}

-- a request that may change what is loaded
pub data Edit : Type 0 where
  load : (width height : ℕ) (doc : Tree) (sheets : Option (List Text)) → Edit
  insert : (parent index : ℕ) (new : Tree) → Edit
  remove : (id : ℕ) → Edit
  sheet : (at : ℕ) (css : Option Text) → Edit  -- no text takes the sheet out

pub data Request : Type 0 where
  edit : Edit → Request
  query : Query → Request

-- ---- members of an object

-- the number of members; each key stands once
abbrev pub count : Members → ℕ
count no_members = 0
count (member key d ms) = 1 + count ms

-- the number of members of an object
abbrev pub members : Data → ℕ
members d = option_map_or count (as_object d) 0

-- an integer in digits alone, from 0 to 2^64 - 1
abbrev pub number_at : List ℕ → Data → Option ℕ
number_at key d = option_and_then as_u64 (option_and_then as_number (get key d))

-- the bytes of a string in UTF-8
abbrev pub string_at : List ℕ → Data → Option (List ℕ)
string_at key d = option_and_then as_str (get key d)

-- an element in JsonML
abbrev pub doc_at : List ℕ → Data → Option Tree
doc_at key d = option_and_then doc_of (get key d)

-- an element or a text in JsonML
abbrev pub tree_at : List ℕ → Data → Option Tree
tree_at key d = option_and_then tree_of (get key d)

-- a text and the texts after it
abbrev pub text_and : Option (List ℕ) → Option (List Text) → Option (List Text)
text_and s texts = option_and_then (λ bytes. option_map (λ rest. chars bytes ∷ rest) texts) s

-- the texts of an array of strings
abbrev pub texts_of_items : Items → Option (List Text)
texts_of_items no_items = Some []
texts_of_items (item d ds) = text_and (as_str d) (texts_of_items ds)

abbrev pub texts_of : Data → Option (List Text)
texts_of d = option_and_then texts_of_items (as_array d)

-- a member that may be missing: `Some None` where it is missing, `None` where its value is not of this form
abbrev pub optional : {X : Type 0} → (Data → Option X) → Option Data → Option (Option X)
optional f None = Some None
optional f (Some d) = option_map Some (f d)

abbrev pub texts_at : List ℕ → Data → Option (Option (List Text))
texts_at key d = optional texts_of (get key d)

-- a string, or null
abbrev pub text_or_null_of : Data → Option (Option Text)
text_or_null_of null = Some None
text_or_null_of (string s) = Some (Some (chars s))
text_or_null_of d = None

abbrev pub text_or_null_at : List ℕ → Data → Option (Option Text)
text_or_null_at key d = option_and_then text_or_null_of (get key d)

-- ---- requests: each has exactly the members of its kind

abbrev pub one_if : Bool → ℕ
one_if b = if b then 1 else 0

-- a load of its parts, where the object has no other member
abbrev pub load_from : ℕ → Option ℕ → Option ℕ → Option Tree → Option (Option (List Text)) → Option Edit
load_from members (Some width) (Some height) (Some doc) (Some sheets) =
    if members == 4 + one_if (is_some sheets) then Some (load width height doc sheets) else None
load_from members width height doc sheets = None

unfoldable pub load_of : Data → Option Edit
load_of d =
    load_from (members d) (number_at (codes "width") d) (number_at (codes "height") d)
    (doc_at (codes "doc") d)
    (texts_at (codes "sheets") d)

-- an insert of its parts, where the object has no other member
abbrev pub insert_from : ℕ → Option ℕ → Option ℕ → Option Tree → Option Edit
insert_from members (Some parent) (Some index) (Some new) =
    if members == 4 then Some (insert parent index new) else None
insert_from members parent index new = None

unfoldable pub insert_of : Data → Option Edit
insert_of d = insert_from (members d) (number_at (codes "parent") d) (number_at (codes "index") d)
    (tree_at (codes "tree") d)

-- a remove of its id, where the object has no other member
abbrev pub remove_from : ℕ → Option ℕ → Option Edit
remove_from members (Some id) = if members == 2 then Some (remove id) else None
remove_from members None = None

unfoldable pub remove_of : Data → Option Edit
remove_of d = remove_from (members d) (number_at (codes "id") d)

-- a sheet of its place and its text, where the object has no other member
abbrev pub sheet_from : ℕ → Option ℕ → Option (Option Text) → Option Edit
sheet_from members (Some at) (Some css) = if members == 3 then Some (sheet at css) else None
sheet_from members at css = None

unfoldable pub sheet_of : Data → Option Edit
sheet_of d = sheet_from (members d) (number_at (codes "at") d) (text_or_null_at (codes "css") d)

unfoldable pub dump_of : Data → Option Query
dump_of d = if members d == 1 then Some Dump else None

unfoldable pub rules_of : Data → Option Query
rules_of d = if members d == 1 then Some Rules else None

-- a match of its selector list, where the object has no other member
abbrev pub match_from : ℕ → Option (List ℕ) → Option Query
match_from members (Some selector) = if members == 2 then Some (Match (chars selector)) else None
match_from members None = None

unfoldable pub match_of : Data → Option Query
match_of d = match_from (members d) (string_at (codes "selector") d)

-- a style of its id, where the object has no other member
abbrev pub style_from : ℕ → Option ℕ → Option Query
style_from members (Some id) = if members == 2 then Some (Style id) else None
style_from members None = None

unfoldable pub style_of : Data → Option Query
style_of d = style_from (members d) (number_at (codes "id") d)

-- the request that an object is whose `do` has this value
unfoldable pub request_named : List ℕ → Data → Option Request
request_named name d =
    if bytes_eq name (codes "load") then option_map edit (load_of d)
    else (if bytes_eq name (codes "insert") then option_map edit (insert_of d)
    else (if bytes_eq name (codes "remove") then option_map edit (remove_of d)
    else (if bytes_eq name (codes "sheet") then option_map edit (sheet_of d)
    else (if bytes_eq name (codes "dump") then option_map query (dump_of d)
    else (if bytes_eq name (codes "rules") then option_map query (rules_of d)
    else (if bytes_eq name (codes "match") then option_map query (match_of d)
    else (if bytes_eq name (codes "style") then option_map query (style_of d) else None)))))))

-- the names of the requests that are not built yet
abbrev pub names_not_built : List (List ℕ)
names_not_built =
    codes "resize" ∷ codes "move" ∷ codes "set-attr" ∷ codes "drop-attr" ∷ codes "set-text" ∷ codes "counts"
    ∷ []

unfoldable pub is_name_not_built : List ℕ → Bool
is_name_not_built name = list_any (bytes_eq name) names_not_built

-- ---- lines

-- what a line asks for
pub data Asked : Type 0 where
  nothing : Asked  -- a blank line
  broken : Cause → Asked  -- not a request: refused whatever is loaded
  request : Request → Asked

-- a request that was read, or none
abbrev pub asked_by : Option Request → Asked
asked_by None = broken BadRequest
asked_by (Some q) = request q

-- what an object asks for whose member `do` has this value, if that is a string; a name that is not built is refused whatever else the object has
abbrev pub asked_under : Option (List ℕ) → Data → Asked
asked_under None d = broken BadRequest
asked_under (Some name) d =
    if is_name_not_built name then broken NotBuilt else asked_by (request_named name d)

-- the value that a line's bytes are in JSON, if they are in UTF-8 (RFC 8259 section 8.1)
unfoldable pub value_of : List ℕ → Option Data
value_of line = if is_utf8 line then read line else None

unfoldable pub asked_of : Option Data → Asked
asked_of None = broken BadJson
asked_of (Some d) = asked_under (string_at (codes "do") d) d

-- what a line asks for: its length is looked at first, and then whether it is blank
unfoldable pub asked_of_line : List ℕ → Asked
asked_of_line line =
    if is_too_long line then broken LineTooLong
    else (if is_blank line then nothing else asked_of (value_of line))
