-- The text after a piece, by what was read of it.
use Rattle.std.proofs.Common.{◌≡◌, ◌∙◌, ap, refl, sym, ℕ, ◌==◌, ◌&&◌, ◌||◌, List, [], ◌∷◌, ◌++◌, length, drop, append_assoc, not, Bool, true, false, arith}
use Rattle.std.proofs.Math.Seq.{drop-append_seam}
use Rattle.std.proofs.lemmas.Bool.Decides.{nat_tests}
use Rattle.std.specs.Prelude.{codes}
use Rattle.css_model.specs.Classes.{Text, open_round, has_front, begins, is_empty, is_close_round}
use Rattle.css_model.specs.declared.place.Place.TheVariants.{InName, InString, InUrl, InBadUrl}
use Rattle.css_model.specs.declared.token.TokenType.TheVariants.{Function, String, Percentage, Url}
use Rattle.css_model.specs.Numerals.{Numeral, numeral_text, number_of}
use Rattle.css_model.specs.Parts.{Part, parts_text, meanings, would_start_ident}
use Rattle.css_model.specs.inner.Fronts.{parts_in, after_parts, one_in}
use Rattle.css_model.specs.Spellings.{is_url_name, quote_follows}
use Rattle.css_model.specs.TokenList.{token}
use Rattle.css_model.specs.inner.Pieces.{url_parts, after_white, after_url_parts, consume_url, string_of_parts, consume_string, consume_ident_like, consume_numeric}
use Rattle.css_model.proofs.PartLemmas.{fronts}
use Rattle.css_tokens.specs.inner.Texts.{IsAfter}
use Rattle.css_tokens.proofs.PartSteps.{drop-append}

eq-true : (a b : ℕ) → a ≡ b → (a == b) ≡ true
eq-true a b e = grind (arith, nat_tests)

-- what comes after a head and more
head-drop : (h xs cs : Text) → drop (length (h ++ xs)) (h ++ cs) ≡ drop (length xs) cs
head-drop h xs cs = drop-append h xs (h ++ cs) ∙ ap (drop (length xs)) (drop-append_seam h cs)

-- ---- strings

-- a string that is closed
pub record Closed (quote : ℕ) (cs rest : Text) : Type 0 where
  pub is : consume_string quote cs
      ≡ token (String (meanings (InString quote) (parts_in (InString quote) cs))) (quote ∷ (parts_text (parts_in (InString quote) cs) ++ (quote ∷ [])))
  pub rest_is : rest ≡ drop (length (quote ∷ (parts_text (parts_in (InString quote) cs) ++ (quote ∷ [])))) (quote ∷ cs)

closed-by : (quote c : ℕ) (cs rest : Text) → after_parts (parts_in (InString quote) cs) cs ≡ c ∷ rest → (c == quote) ≡ true → Closed quote cs rest
closed-by quote c cs rest e t =
    let parts : List Part = parts_in (InString quote) cs in
    let closes : string_of_parts quote parts (c ∷ rest) ≡ token (String (meanings (InString quote) parts)) (quote ∷ (parts_text parts ++ (quote ∷ []))) = rw t refl in
    record {
      is = ap (string_of_parts quote parts) e ∙ closes;
      rest_is = sym (drop-append (parts_text parts) (quote ∷ []) cs ∙ ap (drop 1) e);
    }

pub string-closed : (quote c : ℕ) (cs rest : Text) → after_parts (parts_in (InString quote) cs) cs ≡ c ∷ rest → c ≡ quote → Closed quote cs rest
string-closed quote c cs rest e same = closed-by quote c cs rest e (eq-true c quote same)

-- ---- numbers

pub numeric-percent : (w : Numeral) (cs rest : Text) → would_start_ident (parts_in InName cs) ≡ false → IsAfter (codes "%") cs rest
    → consume_numeric w cs ≡ token (Percentage (number_of w)) (numeral_text w ++ codes "%")
numeric-percent w cs rest f after = let found : has_front (codes "%") cs ≡ true = after.0 in rw (f, found) refl

pub percent-rest : (w : Numeral) (all cs rest : Text) → cs ≡ drop (length (numeral_text w)) all → IsAfter (codes "%") cs rest
    → rest ≡ drop (length (numeral_text w ++ codes "%")) all
percent-rest w all cs rest e after = sym (drop-append (numeral_text w) (codes "%") all ∙ (ap (drop 1) (sym e) ∙ ap (drop 1) after.1))

-- ---- urls

pub bad-url-rest : (h inside : Text) → drop (length (one_in is_close_round (after_parts (parts_in InBadUrl inside) inside))) (after_parts (parts_in InBadUrl inside) inside)
    ≡ drop (length (h ++ (parts_text (parts_in InBadUrl inside) ++ one_in is_close_round (after_parts (parts_in InBadUrl inside) inside)))) (h ++ inside)
bad-url-rest h inside =
    let parts : Text = parts_text (parts_in InBadUrl inside) in
    let end : Text = one_in is_close_round (after_parts (parts_in InBadUrl inside) inside) in
    sym (head-drop h (parts ++ end) inside ∙ drop-append parts end inside)

-- how a url is spelled
abbrev pub url_text : Text → Text → Text
url_text h inside =
    h ++ ((url_parts inside).before ++ (parts_text (url_parts inside).parts ++ ((url_parts inside).after ++ one_in is_close_round (url_parts inside).left)))

pub url-ends : (h inside : Text) → (is_empty (url_parts inside).left || begins is_close_round (url_parts inside).left) ≡ true
    → consume_url h inside ≡ token (Url (meanings InUrl (url_parts inside).parts)) (url_text h inside)
url-ends h inside t = rw t refl

pub url-rest : (h inside : Text) → drop (length (one_in is_close_round (url_parts inside).left)) (url_parts inside).left ≡ drop (length (url_text h inside)) (h ++ inside)
url-rest h inside =
    let before : Text = (url_parts inside).before in
    let parts : Text = parts_text (url_parts inside).parts in
    let after : Text = (url_parts inside).after in
    let end : Text = one_in is_close_round (url_parts inside).left in
    sym (head-drop h (before ++ (parts ++ (after ++ end))) inside
    ∙ (drop-append before (parts ++ (after ++ end)) inside
    ∙ (drop-append parts (after ++ end) (after_white inside)
    ∙ drop-append after end (after_url_parts (after_white inside)))))

-- ---- names before `(`

-- a name and `(`
abbrev pub head_of : Text → Text
head_of cs = parts_text (parts_in InName cs) ++ codes "("

called-url : (parts : List Part) (c : ℕ) (cs : Text) → (c == open_round) ≡ true → (is_url_name (meanings InName parts) && not (quote_follows cs)) ≡ true
    → consume_ident_like parts (c ∷ cs) ≡ consume_url (parts_text parts ++ codes "(") cs
called-url parts c cs t u = rw (t, u) refl

called-function : (parts : List Part) (c : ℕ) (cs : Text) → (c == open_round) ≡ true → (is_url_name (meanings InName parts) && not (quote_follows cs)) ≡ false
    → consume_ident_like parts (c ∷ cs) ≡ token (Function (meanings InName parts)) (parts_text parts ++ codes "(")
called-function parts c cs t u = rw (t, u) refl

-- what was read of a name, `(` after it and the text after that
pub record Called (cs name inside : Text) : Type 0 where
  pub c : ℕ
  pub named : name ≡ meanings InName (parts_in InName cs)
  pub after : after_parts (parts_in InName cs) cs ≡ c ∷ inside
  pub opens : c ≡ open_round

named-test : (cs name inside : Text) (b : Bool) → Called cs name inside → (is_url_name name && not (quote_follows inside)) ≡ b
    → (is_url_name (meanings InName (parts_in InName cs)) && not (quote_follows inside)) ≡ b
named-test cs name inside b r u = ap (λ m. is_url_name m && not (quote_follows inside)) (sym r.named) ∙ u

pub read-url : (cs name inside : Text) → Called cs name inside → (is_url_name name && not (quote_follows inside)) ≡ true
    → consume_ident_like (parts_in InName cs) (after_parts (parts_in InName cs) cs) ≡ consume_url (head_of cs) inside
read-url cs name inside r u =
    ap (consume_ident_like (parts_in InName cs)) r.after
    ∙ called-url (parts_in InName cs) r.c inside (eq-true r.c open_round r.opens) (named-test cs name inside true r u)

pub read-function : (cs name inside : Text) → Called cs name inside → (is_url_name name && not (quote_follows inside)) ≡ false
    → consume_ident_like (parts_in InName cs) (after_parts (parts_in InName cs) cs) ≡ token (Function name) (head_of cs)
read-function cs name inside r u =
    ap (consume_ident_like (parts_in InName cs)) r.after
    ∙ (called-function (parts_in InName cs) r.c inside (eq-true r.c open_round r.opens) (named-test cs name inside false r u)
    ∙ ap (λ m. token (Function m) (head_of cs)) (sym r.named))

pub head-joins : (cs name inside : Text) → Called cs name inside → head_of cs ++ inside ≡ cs
head-joins cs name inside r =
    append_assoc (parts_text (parts_in InName cs)) (codes "(") inside
    ∙ (ap (λ c. parts_text (parts_in InName cs) ++ (c ∷ inside)) (sym r.opens)
    ∙ (ap (λ l. parts_text (parts_in InName cs) ++ l) (sym r.after) ∙ (fronts InName cs).joins))

pub head-rest : (cs name inside : Text) → Called cs name inside → inside ≡ drop (length (head_of cs)) cs
head-rest cs name inside r = sym (drop-append (parts_text (parts_in InName cs)) (codes "(") cs ∙ ap (drop 1) r.after)
