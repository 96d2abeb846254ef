-- The first piece where a text begins with a name or `-->`.
use Rattle.std.proofs.Common.{◌≡◌, ◌∙◌, sym, ap, refl, subst, ℕ, ◌+◌, ◌≤◌, ◌==◌, List, [], ◌∷◌, ◌++◌, length, drop, true, false, ◌&&◌, not, arith, append_assoc, length-append, eqb-true, inl, inr}
use Rattle.std.proofs.lemmas.Bool.{cases_Bool, true≢false, false≢true, cond_both}
use Rattle.std.specs.Prelude.{codes, if◌then◌else◌}
use Rattle.css_model.specs.Classes.{Text, open_round, close_round, is_whitespace, is_quote, begins, has_front}
use Rattle.css_model.specs.declared.token.TokenType.TheVariants.{Ident, Function}
use Rattle.css_model.specs.declared.place.Place.TheVariants.{InName, InBadUrl}
use Rattle.css_model.specs.Parts.{Part, itself, escaped, hex_escape, escaped_newline, escape_at_end, parts_text, meanings, would_start_ident}
use Rattle.css_model.specs.Spellings.{quote_follows, is_url_name, IsName, IsFunction, IsUrlHead, IsUrl, IsBadUrl}
use Rattle.css_model.specs.TokenList.{Piece, token, piece_text, IsPiece}
use Rattle.css_model.specs.inner.Fronts.{parts_in, after_parts, would_start_number}
use Rattle.css_model.specs.inner.Pieces.{consume_url, consume_ident_like}
use Rattle.css_model.proofs.Tests.{and-left, and-right, both, not-true, not-false}
use Rattle.css_model.proofs.PartLemmas.{parts_in-stop, Fronts, fronts}
use Rattle.css_model.proofs.Demands.{begins_name}
use Rattle.css_model.proofs.Laws.{IsFirst}
use Rattle.css_model.proofs.Longest.{comments, whites, quotes, numbers, names, cdcs, cdos, hashes, ats, Bound, Bounds, longest}
use Rattle.css_model.proofs.FirstStrings.{closed_text, parts-within}
use Rattle.css_model.proofs.Urls.{url-closed, bad_url-closed}
use Rattle.css_model.proofs.UrlPieces.{Headed, headed, UrlHeaded, url_headed, UrlPiece, url-either}

-- ---- the pieces of names in front of a text

pub ident-within : (name s behind cs : Text) → s ++ behind ≡ cs → IsName name true s behind
    → length s ≤ length (parts_text (parts_in InName cs))
ident-within name s behind cs e i =
    let front : parts_text i.parts ++ behind ≡ cs = ap (λ xs. xs ++ behind) (sym i.spelling) ∙ e in
    let mine : length s ≡ length (parts_text i.parts) = ap length i.spelling in
    let within : length (parts_text i.parts) ≤ length (parts_text (parts_in InName cs)) =
    subst (λ xs. length (parts_text i.parts) ≤ length (parts_text (parts_in InName xs))) front
    (parts-within InName i.parts behind i.are_parts) in
    omega (arith, mine, within)

-- a function's head in front
pub function-headed : (name s behind cs : Text) → s ++ behind ≡ cs → (i : IsFunction name s behind)
    → Headed i.is_name.parts behind cs
function-headed name s behind cs e i =
    headed name i.head behind cs i.is_name
    (sym (append_assoc i.head (codes "(") behind) ∙ (ap (λ xs. xs ++ behind) (sym i.spelling) ∙ e))

pub url-headed : (value s behind cs : Text) → s ++ behind ≡ cs → (i : IsUrl value s behind)
    → UrlHeaded i.head (i.before ++ (parts_text i.parts ++ (i.after ++ (i.end ++ behind)))) cs
url-headed value s behind cs e i =
    url_headed i.head (i.before ++ (parts_text i.parts ++ (i.after ++ (i.end ++ behind)))) cs i.is_head
    (sym (append_assoc i.head (i.before ++ (parts_text i.parts ++ (i.after ++ i.end))) behind
    ∙ ap (λ xs. i.head ++ xs) (append_assoc i.before (parts_text i.parts ++ (i.after ++ i.end)) behind
    ∙ ap (λ xs. i.before ++ xs)
    (append_assoc (parts_text i.parts) (i.after ++ i.end) behind
    ∙ ap (λ xs. parts_text i.parts ++ xs) (append_assoc i.after i.end behind))))
    ∙ (ap (λ xs. xs ++ behind) (sym i.spelling) ∙ e))

pub bad_url-headed : (s behind cs : Text) → s ++ behind ≡ cs → (i : IsBadUrl s behind)
    → UrlHeaded i.head (parts_text i.parts ++ (i.end ++ behind)) cs
bad_url-headed s behind cs e i =
    url_headed i.head (parts_text i.parts ++ (i.end ++ behind)) cs i.is_head
    (sym (append_assoc i.head (parts_text i.parts ++ i.end) behind
    ∙ ap (λ xs. i.head ++ xs) (append_assoc (parts_text i.parts) i.end behind))
    ∙ (ap (λ xs. xs ++ behind) (sym i.spelling) ∙ e))

-- ---- how long they are

-- where no `(` follows the name
pub names-plain : (cs : Text) (k : ℕ)
    → begins (λ c. c == open_round) (after_parts (parts_in InName cs) cs) ≡ false
    → length (parts_text (parts_in InName cs)) ≤ k → Bound names cs k
names-plain cs k ne l = (
  (λ name s behind e i. let w : length s ≤ length
      (parts_text (parts_in InName cs)) = ident-within name s behind cs e i in omega (arith, w, l)),
  (λ name s behind e i. absurd
      (true≢false (sym (ap (begins (λ c. c == open_round)) ((function-headed name s behind cs e i).behind))
      ∙ ne))),
  (λ value s behind e i. absurd
      (true≢false (sym (ap (begins (λ c. c == open_round)) ((url-headed value s behind cs e i).behind))
      ∙ ne))),
  (λ s behind e i. absurd
      (true≢false (sym (ap (begins (λ c. c == open_round)) ((bad_url-headed s behind cs e i).behind))
      ∙ ne))),
)

-- the head of a url is there, and no quote after it
pub url-there : (head inside ds cs : Text) → UrlHeaded head inside cs
    → after_parts (parts_in InName cs) cs ≡ open_round ∷ ds → quote_follows inside ≡ false
    → is_url_name (meanings InName (parts_in InName cs)) && not (quote_follows ds) ≡ true
url-there head inside ds cs u b q =
    let same : inside ≡ ds = ap (drop 1) (sym u.behind ∙ b) in
    both (is_url_name (meanings InName (parts_in InName cs))) (not (quote_follows ds)) u.url_name
    (not-false (quote_follows ds) (ap quote_follows (sym same) ∙ q))

-- where the name begins a function
names-function : (cs ds : Text) → after_parts (parts_in InName cs) cs ≡ open_round ∷ ds
    → is_url_name (meanings InName (parts_in InName cs)) && not (quote_follows ds) ≡ false
    → Bound names cs (length (parts_text (parts_in InName cs) ++ codes "("))
names-function cs ds b ne =
    let size : length (parts_text (parts_in InName cs) ++ codes "(")
    ≡ length (parts_text (parts_in InName cs)) + 1 =
    length-append (parts_text (parts_in InName cs)) (codes "(") in (
      (λ name s behind e i. let w : length s ≤ length
          (parts_text (parts_in InName cs)) = ident-within name s behind cs e i in omega (arith, w, size)),
      (λ name s behind e i.
          let same : s ≡ parts_text (parts_in InName cs) ++ codes "(" = i.spelling
          ∙ ap (λ xs. xs ++ codes "(")
          (i.is_name.spelling ∙ ap parts_text (sym ((function-headed name s behind cs e i).are))) in
          let l : length s ≡ length (parts_text (parts_in InName cs) ++ codes "(") = ap length same in
          omega (arith, l)),
      (λ value s behind e i. absurd
          (true≢false (sym
          (url-there i.head (i.before ++ (parts_text i.parts ++ (i.after ++ (i.end ++ behind)))) ds cs
          (url-headed value s behind cs e i) b i.is_head.no_quote) ∙ ne))),
      (λ s behind e i. absurd
          (true≢false (sym
          (url-there i.head (parts_text i.parts ++ (i.end ++ behind)) ds cs
          (bad_url-headed s behind cs e i) b i.is_head.no_quote) ∙ ne))),
    )

-- where it begins a url
url-size : (s head tail inside ds cs : Text) → s ≡ head ++ tail → UrlHeaded head inside cs
    → after_parts (parts_in InName cs) cs ≡ open_round ∷ ds → closed_text InBadUrl close_round inside ≡ tail
    → length s ≡ length (parts_text (parts_in InName cs) ++ codes "(") + length
    (closed_text InBadUrl close_round ds)
url-size s head tail inside ds cs e u b closed =
    let same : inside ≡ ds = ap (drop 1) (sym u.behind ∙ b) in
    ap length e ∙ (length-append head tail
    ∙ (ap (λ xs. length xs + length tail) u.is
    ∙ ap (λ xs. length (parts_text (parts_in InName cs) ++ codes "(") + length xs)
    (sym closed ∙ ap (closed_text InBadUrl close_round) same)))

names-url : (cs ds : Text) → after_parts (parts_in InName cs) cs ≡ open_round ∷ ds
    → is_url_name (meanings InName (parts_in InName cs)) && not (quote_follows ds) ≡ true
    → Bound names cs
    (length (parts_text (parts_in InName cs) ++ codes "(") + length (closed_text InBadUrl close_round ds))
names-url cs ds b yes' =
    let size : length (parts_text (parts_in InName cs) ++ codes "(")
    ≡ length (parts_text (parts_in InName cs)) + 1 =
    length-append (parts_text (parts_in InName cs)) (codes "(") in (
      (λ name s behind e i. let w : length s ≤ length
          (parts_text (parts_in InName cs)) = ident-within name s behind cs e i in omega (arith, w, size)),
      (λ name s behind e i.
          let it : Headed i.is_name.parts behind cs = function-headed name s behind cs e i in
          let same : behind ≡ ds = ap (drop 1) (sym it.behind ∙ b) in
          let means : meanings InName (parts_in InName cs) ≡ name = ap (meanings InName) it.are
          ∙ i.is_name.means in
          absurd (false≢true
          (sym i.no_url ∙ (ap (λ xs. is_url_name name && not (quote_follows xs)) same
          ∙ (ap (λ m. is_url_name m && not (quote_follows ds)) (sym means) ∙ yes'))))),
      (λ value s behind e i.
          let l : length s
          ≡ length (parts_text (parts_in InName cs) ++ codes "(") + length
          (closed_text InBadUrl close_round ds) =
          url-size s i.head (i.before ++ (parts_text i.parts ++ (i.after ++ i.end)))
          (i.before ++ (parts_text i.parts ++ (i.after ++ (i.end ++ behind)))) ds cs i.spelling
          (url-headed value s behind cs e i) b
          (url-closed i.before i.after i.end behind i.parts i.whitespace_before i.are_parts
          i.whitespace_after i.ends) in
          omega (arith, l)),
      (λ s behind e i.
          let l : length s
          ≡ length (parts_text (parts_in InName cs) ++ codes "(") + length
          (closed_text InBadUrl close_round ds) =
          url-size s i.head (parts_text i.parts ++ i.end)
          (parts_text i.parts ++ (i.end ++ behind)) ds cs i.spelling (bad_url-headed s behind cs e i) b
          (bad_url-closed i.end behind i.parts i.are_parts i.ends) in
          omega (arith, l)),
    )

-- ---- other types

-- no whitespace, quote, comment, number or `-->` is in front
pub record Named (cs : Text) : Type 0 where
  pub comment : has_front (codes "/*") cs ≡ false
  pub white : begins is_whitespace cs ≡ false
  pub quote : begins is_quote cs ≡ false
  pub number : would_start_number cs ≡ false
  pub cdc : has_front (codes "-->") cs ≡ false
  pub name : begins_name cs ≡ true

pub other-char : (c d : ℕ) (cs : Text) → begins_name (c ∷ cs) ≡ true → begins_name (d ∷ cs) ≡ false
    → c == d ≡ false
other-char c d cs h f =
    elim (cases_Bool (c == d)) [
      | inl t ↦
          absurd (true≢false (sym (ap (λ x. begins_name (x ∷ cs)) (sym (eqb-true c d t)) ∙ h) ∙ f))
      | inr n ↦ n
    ]

bounds-named : (c : ℕ) (cs : Text) (k : ℕ) → Named (c ∷ cs) → Bound names (c ∷ cs) k → Bounds (c ∷ cs) k
bounds-named c cs k o b comments = inl o.comment
bounds-named c cs k o b whites = inl o.white
bounds-named c cs k o b quotes = inl o.quote
bounds-named c cs k o b numbers = inl o.number
bounds-named c cs k o b names = inr b
bounds-named c cs k o b cdcs = inl o.cdc
bounds-named c cs k o b cdos =
    inl (ap (λ t. t && has_front (codes "!--") cs)
    (other-char c 60 cs o.name (ap would_start_ident (parts_in-stop InName 60 cs refl))))
bounds-named c cs k o b hashes =
    inl (other-char c 35 cs o.name (ap would_start_ident (parts_in-stop InName 35 cs refl)))
bounds-named c cs k o b ats =
    inl (other-char c 64 cs o.name (ap would_start_ident (parts_in-stop InName 64 cs refl)))

-- ---- the first piece

pub some-text : (parts : List Part) → would_start_ident parts ≡ true → 1 ≤ length (parts_text parts)
some-text [] h = absurd (false≢true h)
some-text (itself c ∷ parts) h = omega arith
some-text (escaped c ∷ parts) h = omega arith
some-text (hex_escape digits blank ∷ parts) h = omega arith
some-text (escaped_newline ∷ parts) h = omega arith
some-text (escape_at_end ∷ parts) h = omega arith

ident-first : (c : ℕ) (cs : Text) → Named (c ∷ cs)
    → begins (λ d. d == open_round) (after_parts (parts_in InName (c ∷ cs)) (c ∷ cs)) ≡ false
    → IsFirst (token (Ident (meanings InName (parts_in InName (c ∷ cs))))
    (parts_text (parts_in InName (c ∷ cs)))) (c ∷ cs)
ident-first c cs o ne =
    let f : Fronts InName (c ∷ cs) = fronts InName (c ∷ cs) in
    let some : 1 ≤ length (parts_text (parts_in InName (c ∷ cs))) =
    some-text (parts_in InName (c ∷ cs)) o.name in
    record {
      rest = after_parts (parts_in InName (c ∷ cs)) (c ∷ cs);
      joins = f.joins;
      some = some;
      is = record {
        parts = parts_in InName (c ∷ cs);
        spelling = refl;
        are_parts = f.are;
        means = refl;
        identifier = o.name;
      };
      longest = longest (c ∷ cs) (length (parts_text (parts_in InName (c ∷ cs)))) some
          (bounds-named c cs (length (parts_text (parts_in InName (c ∷ cs)))) o
          (names-plain (c ∷ cs) (length (parts_text (parts_in InName (c ∷ cs)))) ne (omega arith)));
    }

-- the name before `(` in front of a text
open-name : (c : ℕ) (cs ds : Text) → Named (c ∷ cs)
    → after_parts (parts_in InName (c ∷ cs)) (c ∷ cs) ≡ open_round ∷ ds
    → IsName (meanings InName (parts_in InName (c ∷ cs))) true (parts_text (parts_in InName (c ∷ cs)))
    (codes "(" ++ ds)
open-name c cs ds o b =
    let f : Fronts InName (c ∷ cs) = fronts InName (c ∷ cs) in
    subst (IsName (meanings InName (parts_in InName (c ∷ cs))) true (parts_text (parts_in InName (c ∷ cs))))
    b (record {
      parts = parts_in InName (c ∷ cs);
      spelling = refl;
      are_parts = f.are;
      means = refl;
      identifier = o.name;
    })

open-joins : (c : ℕ) (cs ds : Text) → after_parts (parts_in InName (c ∷ cs)) (c ∷ cs) ≡ open_round ∷ ds
    → (parts_text (parts_in InName (c ∷ cs)) ++ codes "(") ++ ds ≡ c ∷ cs
open-joins c cs ds b =
    let f : Fronts InName (c ∷ cs) = fronts InName (c ∷ cs) in
    append_assoc (parts_text (parts_in InName (c ∷ cs))) (codes "(") ds
    ∙ (ap (λ xs. parts_text (parts_in InName (c ∷ cs)) ++ xs) (sym b) ∙ f.joins)

function-first : (c : ℕ) (cs ds : Text) → Named (c ∷ cs)
    → after_parts (parts_in InName (c ∷ cs)) (c ∷ cs) ≡ open_round ∷ ds
    → is_url_name (meanings InName (parts_in InName (c ∷ cs))) && not (quote_follows ds) ≡ false
    → IsFirst (token (Function (meanings InName (parts_in InName (c ∷ cs))))
    (parts_text (parts_in InName (c ∷ cs)) ++ codes "(")) (c ∷ cs)
function-first c cs ds o b ne =
    let size : length (parts_text (parts_in InName (c ∷ cs)) ++ codes "(")
    ≡ length (parts_text (parts_in InName (c ∷ cs))) + 1 =
    length-append (parts_text (parts_in InName (c ∷ cs))) (codes "(") in
    let some : 1 ≤ length (parts_text (parts_in InName (c ∷ cs)) ++ codes "(") = omega (arith, size) in
    record {
      rest = ds;
      joins = open-joins c cs ds b;
      some = some;
      is = record {
        head = parts_text (parts_in InName (c ∷ cs));
        spelling = refl;
        is_name = open-name c cs ds o b;
        no_url = ne;
      };
      longest = longest (c ∷ cs) (length (parts_text (parts_in InName (c ∷ cs)) ++ codes "(")) some
          (bounds-named c cs (length (parts_text (parts_in InName (c ∷ cs)) ++ codes "(")) o
          (names-function (c ∷ cs) ds b ne));
    }

url-first : (c : ℕ) (cs ds : Text) → Named (c ∷ cs)
    → after_parts (parts_in InName (c ∷ cs)) (c ∷ cs) ≡ open_round ∷ ds
    → is_url_name (meanings InName (parts_in InName (c ∷ cs))) && not (quote_follows ds) ≡ true
    → IsFirst (consume_url (parts_text (parts_in InName (c ∷ cs)) ++ codes "(") ds) (c ∷ cs)
url-first c cs ds o b y =
    let name : Text = meanings InName (parts_in InName (c ∷ cs)) in
    let head : Text = parts_text (parts_in InName (c ∷ cs)) ++ codes "(" in
    let is_head : IsUrlHead head ds =
    record {
      name = name;
      head = parts_text (parts_in InName (c ∷ cs));
      spelling = refl;
      is_name = open-name c cs ds o b;
      url_name = and-left (is_url_name name) (not (quote_follows ds)) y;
      no_quote = not-true (quote_follows ds)
          (and-right (is_url_name name) (not (quote_follows ds)) y);
    } in
    let u : UrlPiece (consume_url head ds) head ds = url-either head ds is_head in
    let k : ℕ = length head + length (closed_text InBadUrl close_round ds) in
    let size : length head ≡ length (parts_text (parts_in InName (c ∷ cs))) + 1 =
    length-append (parts_text (parts_in InName (c ∷ cs))) (codes "(") in
    let some : 1 ≤ length head + length (closed_text InBadUrl close_round ds) = omega (arith, size) in
    record {
      rest = u.rest;
      joins = u.joins ∙ open-joins c cs ds b;
      some = subst (λ n. 1 ≤ n) (sym u.size) some;
      is = u.is;
      longest = subst (λ n. (q : Piece) (behind : Text) → piece_text q ++ behind ≡ c ∷ cs → IsPiece q behind
          → length (piece_text q) ≤ n) (sym u.size)
          (longest (c ∷ cs) k some (bounds-named c cs k o (names-url (c ∷ cs) ds b y)));
    }

pub name-first : (c : ℕ) (cs behind : Text) → Named (c ∷ cs)
    → after_parts (parts_in InName (c ∷ cs)) (c ∷ cs) ≡ behind
    → IsFirst (consume_ident_like (parts_in InName (c ∷ cs)) behind) (c ∷ cs)
name-first c cs [] o b = ident-first c cs o (ap (begins (λ d. d == open_round)) b)
name-first c cs (d ∷ ds) o b =
    let parts : List Part = parts_in InName (c ∷ cs) in
    let name : Text = meanings InName parts in
    let as_url : Piece = consume_url (parts_text parts ++ codes "(") ds in
    let as_function : Piece = token (Function name) (parts_text parts ++ codes "(") in
    let as_ident : Piece = token (Ident name) (parts_text parts) in
    cond_both (d == open_round)
    (if is_url_name name && not (quote_follows ds) then as_url else as_function) as_ident
    (λ p. IsFirst p (c ∷ cs))
    (λ t.
    let b' : after_parts parts (c ∷ cs) ≡ open_round ∷ ds = b
    ∙ ap (λ x. x ∷ ds) (eqb-true d open_round t) in
    cond_both (is_url_name name && not (quote_follows ds)) as_url as_function (λ p. IsFirst p (c ∷ cs))
    (λ y. url-first c cs ds o b' y) (λ n. function-first c cs ds o b' n))
    (λ n. ident-first c cs o (ap (begins (λ x. x == open_round)) b ∙ n))
