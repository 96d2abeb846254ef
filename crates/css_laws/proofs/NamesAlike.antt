-- Identifiers, functions, urls and bad urls of one spelling.
use Rattle.std.proofs.Common.{◌≡◌, ◌∙◌, sym, ap, refl, subst, ℕ, ◌+◌, ◌≤◌, ◌==◌, List, [], ◌∷◌, ◌++◌, length, drop, true, false, ◌&&◌, not, arith, length-append, inl, inr}
use Rattle.std.proofs.lemmas.Bool.{cases_Bool, true≢false, false≢true, cond_both}
use Rattle.std.specs.Prelude.{codes, if◌then◌else◌}
use Rattle.css_model.specs.Classes.{Text, open_round, is_whitespace, begins, has_front, is_close_round}
use Rattle.css_model.specs.declared.token.TokenType.{TokenType}
use Rattle.css_model.specs.declared.token.TokenType.TheVariants.{Ident, Function, Url, BadUrl, Cdc, Cdo}
use Rattle.css_model.specs.declared.place.Place.TheVariants.{InName, InUrl}
use Rattle.css_model.specs.Parts.{Part, parts_text, meanings, would_start_ident, may_stand}
use Rattle.css_model.specs.Spellings.{quote_follows, is_url_name, IsName, IsFunction, IsUrl, IsBadUrl}
use Rattle.css_model.specs.TokenList.{Piece, token}
use Rattle.css_model.specs.inner.Fronts.{one_in, run_in, part_in, parts_in, after_parts, would_start_number}
use Rattle.css_model.specs.inner.Pieces.{after_white, after_url_parts, consume_bad_url_remnants, consume_url, consume_ident_like, marked_piece}
use Rattle.css_model.proofs.Tests.{pick-true}
use Rattle.css_model.proofs.PartLemmas.{parts_in-nil, parts_in-stop}
use Rattle.css_model.proofs.Demands.{begins_name}
use Rattle.css_model.proofs.FirstNames.{ident-within, function-headed, url-headed, bad_url-headed, url-there, other-char}
use Rattle.css_model.proofs.FirstPieces.{cdc-parts}
use Rattle.css_model.proofs.Units.{number-no_name}
use Rattle.css_model.proofs.UrlPieces.{Headed, UrlHeaded}
use Rattle.css_model.proofs.Urls.{is_closed, url-parts}
use Rattle.css_laws.proofs.Branches.{first_of, past-comment, past-number}
use Rattle.css_laws.proofs.Meets.{Meets, meet, name-same}

-- ---- how long they are

-- the length of the name in front of a text
abbrev name_size : Text → ℕ
name_size cs = length (parts_text (parts_in InName cs))

function-longer : (name s rest : Text) → IsFunction name s rest → name_size (s ++ rest) + 1 ≤ length s
function-longer name s rest h =
    let it : Headed h.is_name.parts rest (s ++ rest) = function-headed name s rest (s ++ rest) refl h in
    let size : length s ≡ length (parts_text (parts_in InName (s ++ rest))) + 1 =
    ap length (h.spelling ∙ ap (λ xs. xs ++ codes "(") (h.is_name.spelling ∙ ap parts_text (sym it.are)))
    ∙ length-append (parts_text (parts_in InName (s ++ rest))) (codes "(") in
    omega (arith, size)

headed-longer : (head inside tail s cs : Text) → UrlHeaded head inside cs → s ≡ head ++ tail
    → name_size cs + 1 ≤ length s
headed-longer head inside tail s cs u e =
    let size : length s ≡ length head + length tail = ap length e ∙ length-append head tail in
    let front : length head ≡ length (parts_text (parts_in InName cs)) + 1 = ap length u.is
    ∙ length-append (parts_text (parts_in InName cs)) (codes "(") in
    omega (arith, size, front)

url-longer : (value s rest : Text) → IsUrl value s rest → name_size (s ++ rest) + 1 ≤ length s
url-longer value s rest h =
    headed-longer h.head (h.before ++ (parts_text h.parts ++ (h.after ++ (h.end ++ rest))))
    (h.before ++ (parts_text h.parts ++ (h.after ++ h.end))) s (s ++ rest)
    (url-headed value s rest (s ++ rest) refl h) h.spelling

bad_url-longer : (s rest : Text) → IsBadUrl s rest → name_size (s ++ rest) + 1 ≤ length s
bad_url-longer s rest h =
    headed-longer h.head (parts_text h.parts ++ (h.end ++ rest)) (parts_text h.parts ++ h.end) s (s ++ rest)
    (bad_url-headed s rest (s ++ rest) refl h) h.spelling

-- an identifier is not longer than the name in front
ident-no_longer : (name s rest : Text) → IsName name true s rest → name_size (s ++ rest) + 1 ≤ length s → ⊥
ident-no_longer name s rest h l =
    let within : length s ≤ length (parts_text (parts_in InName (s ++ rest))) =
    ident-within name s rest (s ++ rest) refl h in
    absurd (omega (arith, l, within))

-- ---- two of one spelling

function-same : (a b s rest : Text) → IsFunction a s rest → IsFunction b s rest → a ≡ b
function-same a b s rest h k =
    let mine : Headed h.is_name.parts rest (s ++ rest) = function-headed a s rest (s ++ rest) refl h in
    let theirs : Headed k.is_name.parts rest (s ++ rest) = function-headed b s rest (s ++ rest) refl k in
    sym h.is_name.means ∙ (ap (meanings InName) (sym mine.are ∙ theirs.are) ∙ k.is_name.means)

function-no_head : (name s rest head inside : Text) → IsFunction name s rest
    → UrlHeaded head inside (s ++ rest) → quote_follows inside ≡ false → ⊥
function-no_head name s rest head inside h u q =
    let it : Headed h.is_name.parts rest (s ++ rest) = function-headed name s rest (s ++ rest) refl h in
    let means : meanings InName (parts_in InName (s ++ rest)) ≡ name = ap (meanings InName) it.are
    ∙ h.is_name.means in
    true≢false (sym (url-there head inside rest (s ++ rest) u it.behind q)
    ∙ (ap (λ m. is_url_name m && not (quote_follows rest)) means ∙ h.no_url))

function-no_url : (name value s rest : Text) → IsFunction name s rest → IsUrl value s rest → ⊥
function-no_url name value s rest h k =
    function-no_head name s rest k.head (k.before ++ (parts_text k.parts ++ (k.after ++ (k.end ++ rest)))) h
    (url-headed value s rest (s ++ rest) refl k) k.is_head.no_quote

function-no_bad_url : (name s rest : Text) → IsFunction name s rest → IsBadUrl s rest → ⊥
function-no_bad_url name s rest h k =
    function-no_head name s rest k.head (parts_text k.parts ++ (k.end ++ rest)) h
    (bad_url-headed s rest (s ++ rest) refl k) k.is_head.no_quote

url-same : (a b s rest : Text) → IsUrl a s rest → IsUrl b s rest → a ≡ b
url-same a b s rest h k =
    let mine : UrlHeaded h.head (h.before ++ (parts_text h.parts ++ (h.after ++ (h.end ++ rest))))
    (s ++ rest) =
    url-headed a s rest (s ++ rest) refl h in
    let theirs : UrlHeaded k.head (k.before ++ (parts_text k.parts ++ (k.after ++ (k.end ++ rest))))
    (s ++ rest) =
    url-headed b s rest (s ++ rest) refl k in
    let same : h.before ++ (parts_text h.parts ++ (h.after ++ (h.end ++ rest)))
    ≡ k.before ++ (parts_text k.parts ++ (k.after ++ (k.end ++ rest))) =
    ap (drop 1) (sym mine.behind ∙ theirs.behind) in
    let parts : h.parts ≡ k.parts =
    sym (url-parts h.before h.after h.end rest h.parts h.whitespace_before h.are_parts
    h.whitespace_after h.ends)
    ∙ (ap (λ xs. parts_in InUrl (after_white xs)) same
    ∙ url-parts k.before k.after k.end rest k.parts k.whitespace_before k.are_parts k.whitespace_after
    k.ends) in
    sym h.means ∙ (ap (meanings InName) parts ∙ k.means)

-- ---- each of them against all

-- a piece that begins with a name and is spelled so is of this type
pub record NamesAre (token_type : TokenType) (s rest : Text) : Type 0 where
  pub as_ident : (name : Text) → IsName name true s rest → token_type ≡ Ident name
  pub as_function : (name : Text) → IsFunction name s rest → token_type ≡ Function name
  pub as_url : (value : Text) → IsUrl value s rest → token_type ≡ Url value
  pub as_bad_url : IsBadUrl s rest → token_type ≡ BadUrl
  pub no_cdc : s ≡ codes "-->" → ⊥

cdc-behind : (rest : Text)
    → begins (λ c. c == open_round)
    (after_parts (parts_in InName (codes "-->" ++ rest)) (codes "-->" ++ rest)) ≡ false
cdc-behind rest =
    ap (λ ps. begins (λ c. c == open_round) (after_parts ps (codes "-->" ++ rest))) (cdc-parts rest)

cdc-size : (rest : Text) → name_size (codes "-->" ++ rest) ≡ 2
cdc-size rest = ap (λ ps. length (parts_text ps)) (cdc-parts rest)

-- what begins with a head is not `-->`
cdc-no_head : (s rest inside : Text)
    → after_parts (parts_in InName (s ++ rest)) (s ++ rest) ≡ open_round ∷ inside → s ≡ codes "-->" → ⊥
cdc-no_head s rest inside b e =
    true≢false (sym (ap (begins (λ c. c == open_round)) b)
    ∙ (ap (λ xs. begins (λ c. c == open_round)
    (after_parts (parts_in InName (xs ++ rest)) (xs ++ rest))) e ∙ cdc-behind rest))

ident-no_cdc : (name s rest : Text) → IsName name true s rest → s ≡ codes "-->" → ⊥
ident-no_cdc name s rest h e =
    let within : length s ≤ length (parts_text (parts_in InName (s ++ rest))) =
    ident-within name s rest (s ++ rest) refl h in
    let two : length (parts_text (parts_in InName (s ++ rest))) ≡ 2 =
    ap (λ xs. length (parts_text (parts_in InName (xs ++ rest)))) e ∙ cdc-size rest in
    let three : length s ≡ 3 = ap length e in
    absurd (omega (arith, within, two, three))

pub ident-are : (name s rest : Text) → IsName name true s rest → NamesAre (Ident name) s rest
ident-are name s rest h = record {
  as_ident = λ b k. ap Ident ((name-same name b true true s rest h k).0);
  as_function = λ b k. absurd (ident-no_longer name s rest h (function-longer b s rest k));
  as_url = λ v k. absurd (ident-no_longer name s rest h (url-longer v s rest k));
  as_bad_url = λ k. absurd (ident-no_longer name s rest h (bad_url-longer s rest k));
  no_cdc = ident-no_cdc name s rest h;
}

pub function-are : (name s rest : Text) → IsFunction name s rest → NamesAre (Function name) s rest
function-are name s rest h = record {
  as_ident = λ b k. absurd (ident-no_longer b s rest k (function-longer name s rest h));
  as_function = λ b k. ap Function (function-same name b s rest h k);
  as_url = λ v k. absurd (function-no_url name v s rest h k);
  as_bad_url = λ k. absurd (function-no_bad_url name s rest h k);
  no_cdc = cdc-no_head s rest rest (function-headed name s rest (s ++ rest) refl h).behind;
}

pub url-are : (value s rest : Text) → IsUrl value s rest → NamesAre (Url value) s rest
url-are value s rest h = record {
  as_ident = λ b k. absurd (ident-no_longer b s rest k (url-longer value s rest h));
  as_function = λ b k. absurd (function-no_url b value s rest k h);
  as_url = λ v k. ap Url (url-same value v s rest h k);
  as_bad_url = λ k. absurd (k.no_url value h);
  no_cdc = cdc-no_head s rest (h.before ++ (parts_text h.parts ++ (h.after ++ (h.end ++ rest))))
      (url-headed value s rest (s ++ rest) refl h).behind;
}

pub bad_url-are : (s rest : Text) → IsBadUrl s rest → NamesAre BadUrl s rest
bad_url-are s rest h = record {
  as_ident = λ b k. absurd (ident-no_longer b s rest k (bad_url-longer s rest h));
  as_function = λ b k. absurd (function-no_bad_url b s rest k h);
  as_url = λ v k. absurd (h.no_url v k);
  as_bad_url = λ k. refl;
  no_cdc = cdc-no_head s rest (parts_text h.parts ++ (h.end ++ rest))
      (bad_url-headed s rest (s ++ rest) refl h).behind;
}

-- ---- the first piece

url-meets : (token_type : TokenType) (s rest : Text) → NamesAre token_type s rest → (head inside : Text)
    → Meets token_type s rest (consume_url head inside)
url-meets token_type s rest are head inside =
    cond_both (is_closed (after_white (after_url_parts (after_white inside))))
    (token (Url (meanings InUrl (parts_in InUrl (after_white inside))))
    (head ++ (run_in is_whitespace
    inside ++ (parts_text
    (parts_in InUrl (after_white inside)) ++ (run_in is_whitespace
    (after_url_parts (after_white inside)) ++ one_in is_close_round
    (after_white (after_url_parts (after_white inside))))))))
    (consume_bad_url_remnants head inside) (Meets token_type s rest)
    (λ t. meet _ _ _ _ _ (are.as_url (meanings InUrl (parts_in InUrl (after_white inside)))))
    (λ n. meet _ _ _ _ _ are.as_bad_url)

name-meets : (token_type : TokenType) (s rest : Text) → NamesAre token_type s rest
    → (parts : List Part) (behind : Text) → Meets token_type s rest (consume_ident_like parts behind)
name-meets token_type s rest are parts [] = meet _ _ _ _ _ (are.as_ident (meanings InName parts))
name-meets token_type s rest are parts (d ∷ ds) =
    let name : Text = meanings InName parts in
    let as_url : Piece = consume_url (parts_text parts ++ codes "(") ds in
    let as_function : Piece = token (Function name) (parts_text parts ++ codes "(") in
    let as_ident : Piece = token (Ident name) (parts_text parts) in
    cond_both (d == open_round)
    (if is_url_name name && not (quote_follows ds) then as_url else as_function) as_ident
    (Meets token_type s rest)
    (λ t. cond_both (is_url_name name && not (quote_follows ds)) as_url as_function
    (Meets token_type s rest)
    (λ y. url-meets token_type s rest are (parts_text parts ++ codes "(") ds)
    (λ n. meet _ _ _ _ _ (are.as_function (meanings InName parts))))
    (λ n. meet _ _ _ _ _ (are.as_ident (meanings InName parts)))

name-no_number : (cs : Text) → begins_name cs ≡ true → would_start_number cs ≡ false
name-no_number cs h =
    elim (cases_Bool (would_start_number cs)) [
      | inl t ↦
          absurd (true≢false (sym h ∙ number-no_name cs t))
      | inr f ↦ f
    ]

pub names-first : (token_type : TokenType) (s rest : Text) → NamesAre token_type s rest → (cs : Text)
    → begins_name cs ≡ true → Meets token_type s rest (first_of cs)
names-first token_type s rest are [] h =
    absurd (false≢true (sym (ap would_start_ident (parts_in-nil InName)) ∙ h))
names-first token_type s rest are (c ∷ cs) h =
    let parts : List Part = parts_in InName (c ∷ cs) in
    let no : (d : ℕ) → begins_name (d ∷ cs) ≡ false → c == d ≡ false = λ d f. other-char c d cs h f in
    let stop : (d : ℕ) → may_stand InName (part_in d cs) ≡ false
    → c == d ≡ false = λ d f. no d (ap would_start_ident (parts_in-stop InName d cs f)) in
    let as_name : Piece = consume_ident_like parts (after_parts parts (c ∷ cs)) in
    let as_mark : Piece =
    if has_front (codes "<!--") (c ∷ cs) then token Cdo (codes "<!--") else marked_piece c
    (parts_in InName cs) in
    subst (Meets token_type s rest)
    (sym (past-comment c cs (rw (stop 10 refl) (rw (stop 9 refl) (stop 32 refl)))
    (rw (stop 34 refl) (stop 39 refl)) (ap (λ b. b && has_front (codes "*") cs) (stop 47 refl))
    ∙ past-number c cs (name-no_number (c ∷ cs) h)))
    (cond_both (has_front (codes "-->") (c ∷ cs)) (token Cdc (codes "-->"))
    (if would_start_ident parts then as_name else as_mark) (Meets token_type s rest)
    (λ t e i. absurd (are.no_cdc (sym e)))
    (λ n. subst (Meets token_type s rest) (sym (pick-true (would_start_ident parts) as_name as_mark h))
    (name-meets token_type s rest are parts (after_parts parts (c ∷ cs)))))
